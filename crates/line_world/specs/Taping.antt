-- For which turns tapes stand, and what a turn puts behind them.
use Rattle.std.specs.Prelude.{◌≡◌, ℕ, Bool, List, ◌∷◌, ◌++◌, Option, Some, None, Result, Ok, Err}
use Rattle.std.specs.List.{flat_map}
use Rattle.outside_calls.specs.Folder.{FolderState}
use Rattle.outside_calls.specs.Outputs.{Holds}
use Rattle.scramblers.specs.declared.mode.Mode.{Mode}
use Rattle.shared_terms.specs.declared.role.Role.{Role}
use Rattle.shared_terms.specs.declared.role.Role.TheVariants.{Originator, Answerer}
use Rattle.sample_line.specs.Mode.{mode_of}
use Rattle.shared_terms.specs.Both.{Both}
use Rattle.symbol_map.specs.declared.sample.Sample.{Sample}
use Rattle.line_coding.specs.Modulates.{ModulatorStands}
use Rattle.line_coding.specs.declared.modulator.Modulator.{Modulator}
use Rattle.recordings.specs.Recording.{header_of, sample_octets}
use Rattle.link_run.specs.Run.{Turn}
use Rattle.line_run.specs.Sampled.{Wire, bits_of}
use Rattle.line_run.specs.Recorded.{Tapes}
use Rattle.line_world.specs.Tapes.{HoldsTapePart, HoldTapesPartly}
use Rattle.line_run.specs.declared.fault.RunFault.{RunFault}
use Rattle.line_world.specs.declared.tape.Tape.{Tape}

-- A modulator has made samples of these bits, which have these octets.
pub record RecordsBits (mode : Mode) (m : Modulator) (bits : List Bool) (octets : List ℕ) : Type 0 where
  pub samples : List Sample
  pub stands : ModulatorStands mode m bits samples
  pub octets_are : octets ≡ flat_map sample_octets samples

-- a tape has recorded all that a role sent in these turns as these octets
abbrev pub TapeStands : Tape → Wire → Role → List Turn → List ℕ → Type 0
TapeStands tape c role ts body = RecordsBits (mode_of role) tape.modulator (bits_of c role ts) body

-- A tape has recorded these turns of its role, and the folder holds that.
pub record KeepsTape (tape : Tape) (f : FolderState) (c : Wire) (role : Role) (ts : List Turn) : Type 0 where
  pub body : List ℕ
  pub stands : TapeStands tape c role ts body
  pub holds : Holds f tape.name.now (header_of (mode_of role) ++ body)

-- it takes the slot of one turn more, or the folder doesn't
abbrev pub TakesSlot : Tape → FolderState → Wire → Role → List Turn → Turn → Result Unit RunFault → Type 0
TakesSlot tape f c role ts t (Ok done) = KeepsTape tape f c role (t ∷ ts)
TakesSlot tape f c role ts t (Err fault) = HoldsTapePart f tape.name.now c role ts t

-- the names of tapes
abbrev pub tape_names : Option (Both Tape) → Tapes
tape_names None = None
tape_names (Some tapes) = Some (record { orig = tapes.orig.name.now; answ = tapes.answ.name.now })

-- both have recorded these turns, and the folder holds that
abbrev pub KeepTapes : Option (Both Tape) → FolderState → Wire → List Turn → Type 0
KeepTapes None f c ts = Unit {0}
KeepTapes (Some tapes) f c ts = KeepsTape tapes.orig f c Originator ts × KeepsTape tapes.answ f c Answerer ts

-- they take one turn more, or the folder doesn't
abbrev pub TakeTurn : Option (Both Tape) → FolderState → Wire → List Turn → Turn → Result Unit RunFault → Type 0
TakeTurn tapes f c ts t (Ok done) = KeepTapes tapes f c (t ∷ ts)
TakeTurn tapes f c ts t (Err fault) = HoldTapesPartly f (tape_names tapes) c ts t
