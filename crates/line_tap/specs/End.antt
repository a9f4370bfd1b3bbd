-- For what the reader of an end's slots stands, and what it reads.
use Rattle.std.specs.Prelude.{◌≡◌, ℕ, ◌+◌, ◌*◌, List, [], ◌∷◌, ◌++◌, length}
use Rattle.frame_check.specs.declared.check.Check.{Check}
use Rattle.shared_terms.specs.declared.role.Role.{Role}
use Rattle.recordings.specs.Samples.{samples_in}
use Rattle.sample_line.specs.Signals.{signal_of}
use Rattle.sample_line.specs.Coder.{IsCodedAs}
use Rattle.link_run.specs.Run.{Turn}
use Rattle.line_run.specs.Sampled.{Wire, signals}
use Rattle.line_tap.specs.declared.reader.SlotReader.{SlotReader}
use Rattle.line_tap.specs.Reader.{ReadsFor, ReaderStands, framing_for}
use Rattle.line_tap.specs.Tapping.{octets_of, HoldsNext}
use Rattle.lapm_frames.specs.declared.sent.Sent.{Sent}

-- A slot as it was read: what was sent in it, and the labels of its samples.
pub record Slot : Type 0 where
  pub sent : Sent
  pub labels : List ℕ

abbrev pub slot_as : Sent → List ℕ → Slot
slot_as sent labels = record { sent = sent; labels = labels }

-- The reader of a role's slots has read these octets, and they are all its slots of these turns.
pub record ReadsOn (r : SlotReader) (c : Wire) (check : Check) (role : Role) (ts : List Turn) (body : List ℕ) : Type 0 where
  pub reads : ReadsFor r c check role ts
  pub stands : ReaderStands r (signals c role ts) (samples_in body)
  pub count : length body ≡ octets_of c (length ts)

-- A slot was read behind those of these turns, of which these octets are all.
pub record ReadsNext (r : SlotReader) (c : Wire) (check : Check) (role : Role) (ts : List Turn) (body : List ℕ) (slot : Slot) : Type 0 where
  pub holds : HoldsNext c check role ts body slot.sent
  pub count : length body ≡ octets_of c (length ts + 1)
  pub symbols : r.symbols ≡ c.symbols
  pub framing : r.framing ≡ framing_for check role c.dlci
  pub stands : ReaderStands r (signals c role ts ++ signal_of check role c.dlci slot.sent ∷ []) (samples_in body)
  pub coded : IsCodedAs role (4 * c.symbols) (signals c role ts) (signal_of check role c.dlci slot.sent) slot.labels
