-- For which past a reader of slots stands, and what it reads.
use Rattle.std.specs.Prelude.{◌≡◌, ℕ, ◌*◌, List, [], ◌∷◌, ◌++◌}
use Rattle.frame_check.specs.declared.check.Check.{Check}
use Rattle.shared_terms.specs.declared.role.Role.{Role}
use Rattle.sample_line.specs.Mode.{mode_of}
use Rattle.scramblers.specs.Mode.{tap_of}
use Rattle.symbol_map.specs.declared.sample.Sample.{Sample}
use Rattle.bit_stuffing.specs.SlotWriter.{WriterStands}
use Rattle.detection.specs.Slots.{Signal, signal_bits, slots_of}
use Rattle.trellis_tables.specs.Table.{next_state}
use Rattle.trellis_tables.specs.Sequences.{Leads}
use Rattle.line_coding.specs.Modulates.{Modulates}
use Rattle.line_coding.specs.Demodulates.{DemodulatorStands}
use Rattle.lapm_frames.specs.declared.sent.Sent.{Sent}
use Rattle.sample_line.specs.Signals.{signal_of, IsCodable}
use Rattle.sample_line.specs.Line.{bits_behind}
use Rattle.sample_line.specs.Coder.{IsCodedAs}
use Rattle.link_run.specs.Run.{Turn}
use Rattle.line_run.specs.Sampled.{Wire}
use Rattle.sample_line.specs.declared.framing.Framing.{Framing}
use Rattle.line_tap.specs.declared.reader.SlotReader.{SlotReader}
use Rattle.line_tap.specs.Tapping.{phase_behind}
use Rattle.line_tap.specs.Labels.{AreLabels}

-- how a role's frames are judged
abbrev pub framing_for : Check → Role → ℕ → Framing
framing_for check sender dlci = record { check = check; sender = sender; dlci = dlci }

-- The reader reads what this role sends, frames with numbers by this check, and it stands behind these turns.
pub record ReadsFor (r : SlotReader) (c : Wire) (check : Check) (role : Role) (ts : List Turn) : Type 0 where
  pub symbols : r.symbols ≡ c.symbols
  pub framing : r.framing ≡ framing_for check role c.dlci
  pub phase : r.phase ≡ phase_behind c role ts

-- Its writer is where the reader is.
pub record IsInStep (r : SlotReader) : Type 0 where
  pub symbols : r.writer.symbols ≡ r.symbols
  pub phase : r.writer.phase ≡ r.phase

-- A reader has read these samples, which are those of these slots.
pub record ReaderStands (reader : SlotReader) (sigs : List Signal) (samples : List Sample) : Type 0 where
  pub labels : List ℕ
  pub are : AreLabels labels samples
  pub read : DemodulatorStands (mode_of reader.framing.sender) reader.demodulator labels (signal_bits (4 * reader.symbols) sigs)
  pub leads : Leads next_state 0 labels reader.state
  pub in_step : IsInStep reader
  pub writer : WriterStands reader.writer (slots_of (4 * reader.symbols) sigs)

-- what a reader's slot of this carries
abbrev pub carries : SlotReader → Sent → Signal
carries reader s = signal_of reader.framing.check reader.framing.sender reader.framing.dlci s

-- These samples follow those that were read, and they are those of a slot in which this is sent.
pub record IsNext (reader : SlotReader) (sigs : List Signal) (samples more : List Sample) (s : Sent) : Type 0 where
  pub codable : IsCodable reader.framing.check reader.framing.sender reader.framing.dlci reader.symbols reader.phase s
  pub modulated : Modulates (tap_of (mode_of reader.framing.sender))
      (signal_bits (4 * reader.symbols) sigs ++ bits_behind (4 * reader.symbols) sigs (carries reader s)) (samples ++ more)

-- The slot was read, as these labels, and the reader stands for it too.
pub record ReadsSlot (old new : SlotReader) (sigs : List Signal) (samples more : List Sample) (labels : List ℕ) (s : Sent) : Type 0 where
  pub next : IsNext old sigs samples more s
  pub coded : IsCodedAs old.framing.sender (4 * old.symbols) sigs (carries old s) labels
  pub framing : new.framing ≡ old.framing
  pub symbols : new.symbols ≡ old.symbols
  pub stands : ReaderStands new (sigs ++ carries old s ∷ []) (samples ++ more)
