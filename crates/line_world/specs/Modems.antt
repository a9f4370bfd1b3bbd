-- For which run a link's ends stand, over a channel of a line that is lent to each of their turns.
use Rattle.std.specs.Prelude.{◌≡◌, ℕ, ◌<◌, Bool, true, false, List, [], ◌∷◌, length, Option}
use Rattle.shared_terms.specs.declared.role.Role.{Role}
use Rattle.shared_terms.specs.Both.{Both}
use Rattle.detection.specs.Slots.{Signal}
use Rattle.noise_script.specs.Script.{ScriptValue, IsInLimits}
use Rattle.link_run.specs.Run.{Accounts, Turn}
use Rattle.line_run.specs.Sampled.{Wire, LineRun}
use Rattle.line_run.specs.Scripted.{wire_at, link_of, longest_of, slot_symbols}
use Rattle.line_run.specs.Stream.{Carried}
use Rattle.line_world.specs.Lines.{LinesWait, AreDue, PassedFew}
use Rattle.line_world.specs.declared.lines.Lines.{Lines}
use Rattle.line_world.specs.Link.{LinkStands, AreIdle, AreCounted, AreWithin}
use Rattle.line_world.specs.Tally.{Tallies, IsFew}
use Rattle.line_world.specs.declared.modems.Modems.{Modems}

-- a turn was made
abbrev pub has_turns : List Turn → Bool
has_turns [] = false
has_turns (t ∷ ts) = true

-- a script's channel of that number, beside which anything may go
pub record IsWireOf (c : Wire) (script : ScriptValue) (dlci : ℕ) : Type 0 where
  pub script_is : c.script ≡ script
  pub dlci_is : c.dlci ≡ dlci
  pub symbols_are : c.symbols ≡ slot_symbols (longest_of script)

-- They made these turns of the run of the channel's script and these files, which has come to these ends, and counted what they show.
pub record ModemsAfter (m : Modems) (c : Wire) (files : Both (List ℕ)) (ts : List Turn) (ends : Accounts) : Type 0 where
  pub run : LineRun c (link_of c.script files) ts ends
  pub link : LinkStands m.link files ends
  pub turn : m.turn ≡ length ts
  pub tally : Tallies m.tally ts ends
  pub spoke : m.spoke ≡ has_turns ts

-- What both ends took is handed over, and few numbers were counted.
pub record AreKept (m : Modems) : Type 0 where
  pub channel : m.dlci < 64
  pub idle : AreIdle m.link
  pub counted : AreCounted m.link m.turn m.turn
  pub few : IsFew m.tally m.turn m.turn

-- A turn may be made over this line: the ends stand for a run of some files over it, beside which anything may go, and their slots are due.
pub record AreReady (m : Modems) (script : ScriptValue) (l : Lines) : Type 0 where
  pub limits : IsInLimits script
  pub kept : AreKept m
  pub beside : Role → ℕ → Option Signal
  pub links : ℕ
  pub streams : Both (List Carried)
  pub files : Both (List ℕ)
  pub within : AreWithin files
  pub turns : List Turn
  pub ends : Accounts
  pub after : ModemsAfter m (wire_at script m.dlci beside) files turns ends
  pub waits : LinesWait l (wire_at script m.dlci beside) links streams
  pub due : AreDue (wire_at script m.dlci beside) links turns streams
  pub few : PassedFew l.directions
