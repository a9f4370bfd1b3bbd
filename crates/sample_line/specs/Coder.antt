-- For which slots a coder stands, and what it makes of the next one.
use Rattle.std.specs.Prelude.{ℕ, ◌*◌, List, ◌++◌, map}
use Rattle.scramblers.specs.Mode.{tap_of}
use Rattle.symbol_map.specs.declared.sample.Sample.{Sample}
use Rattle.symbol_map.specs.Points.{point_of}
use Rattle.line_coding.specs.declared.modulator.Modulator.{Modulator}
use Rattle.line_coding.specs.Modulates.{Modulates, ModulatorStands}
use Rattle.bit_stuffing.specs.SlotWriter.{Writer, WriterStands}
use Rattle.detection.specs.Slots.{Signal, signal_bits, slots_of}
use Rattle.shared_terms.specs.declared.role.Role.{Role}
use Rattle.sample_line.specs.Mode.{mode_of}
use Rattle.sample_line.specs.Line.{bits_behind}

-- what a coder keeps
pub record Coding : Type 0 where
  pub sender : Role
  pub writer : Writer
  pub modulator : Modulator

-- how many bits its slots have
abbrev pub bits_in : Coding → ℕ
bits_in coder = 4 * coder.writer.symbols

-- The coder has coded these slots: their bits are modulated as points.
pub record CoderStands (coder : Coding) (signals : List Signal) : Type 0 where
  pub writer : WriterStands coder.writer (slots_of (bits_in coder) signals)
  pub points : List Sample
  pub modulator : ModulatorStands (mode_of coder.sender) coder.modulator (signal_bits (bits_in coder) signals) points

-- A slot is coded as labels behind others: their points follow the points of all slots before.
pub record IsCodedAs (sender : Role) (size : ℕ) (before : List Signal) (signal : Signal) (labels : List ℕ) : Type 0 where
  pub points : List Sample
  pub earlier : Modulates (tap_of (mode_of sender)) (signal_bits size before) points
  pub modulated : Modulates (tap_of (mode_of sender)) (signal_bits size before ++ bits_behind size before signal) (points ++ map point_of labels)
