-- What the turns of a tap come to that are made over a folder.
use Rattle.std.specs.Prelude.{◌≡◌, ℕ, IsTrue, List, ◌++◌, Result, Ok, Err}
use Rattle.std.specs.Option.{MatchOption}
use Rattle.outside_calls.specs.Folder.{FolderState, octets_at}
use Rattle.outside_calls.specs.Outputs.{HoldEach}
use Rattle.shared_terms.specs.declared.role.Role.{Role}
use Rattle.sample_line.specs.Mode.{mode_of}
use Rattle.shared_terms.specs.Both.{Both, of}
use Rattle.recordings.specs.Recording.{header_of}
use Rattle.noise_script.specs.Script.{ScriptValue}
use Rattle.line_run.specs.Ends.{Left}
use Rattle.line_tap.specs.Tapping.{tapping}
use Rattle.line_tap.specs.Ends.{TapEnd, TapOf}
use Rattle.line_tap.specs.Ends as ends
use Rattle.line_tap.specs.Answers.{stop_by}
use Rattle.command_base.specs.declared.stop.Stop.{Stop}
use Rattle.command_base.specs.declared.stop.Stop.TheVariants.{Own, Read, Write, Say, NoMemory}
use Rattle.line_tap.specs.Names.{TapNames, recording_of, outputs_of}
use Rattle.line_tap.specs.Turn.{StopsAfter, StopsReading}
use Rattle.line_world.specs.Turns.{held_of}

-- these octets stand behind the headers of both recordings
abbrev pub KnowsBodies : FolderState → TapNames → Both (List ℕ) → Type 0
KnowsBodies f n bodies = (role : Role) → IsTrue (f.tells (recording_of role n))
    → octets_at f (recording_of role n) ≡ header_of (mode_of role) ++ of role bodies

-- The tap of the recordings and this script ends so, and the outputs hold what it leaves.
pub record TapEnds (script : ScriptValue) (start now : FolderState) (n : TapNames) (end : TapEnd) : Type 0 where
  pub bodies : Both (List ℕ)
  pub knows : KnowsBodies start n bodies
  pub left : Left
  pub tap : TapOf (tapping script bodies) end left
  pub holds : HoldEach now (outputs_of n) (held_of left)

-- The folder failed in a turn of it.
pub record TapStops (script : ScriptValue) (start now : FolderState) (n : TapNames) : Type 0 where
  pub bodies : Both (List ℕ)
  pub knows : KnowsBodies start n bodies
  pub stops : StopsAfter (tapping script bodies) now n

-- It failed to read a recording.
abbrev pub TapStopsReading : ScriptValue → FolderState → FolderState → TapNames → Type 0
TapStopsReading script start now n = (s : TapStops script start now n) × StopsReading (tapping script s.bodies) now n s.stops

-- why turns stop
abbrev pub StopsBy : ScriptValue → FolderState → FolderState → TapNames → Stop → Type 0
StopsBy script start now n (Own answer) = MatchOption (stop_by answer) ⊥ (TapEnds script start now n)
StopsBy script start now n (Read fault) = TapStopsReading script start now n
StopsBy script start now n (Write fault) = TapStops script start now n
StopsBy script start now n (Say fault) = ⊥
StopsBy script start now n NoMemory = ⊥

-- how turns end
abbrev pub TurnsEnd : ScriptValue → FolderState → FolderState → TapNames → Result ℕ Stop → Type 0
TurnsEnd script start now n (Ok turns) = TapEnds script start now n (ends.IsDone turns)
TurnsEnd script start now n (Err stop) = StopsBy script start now n stop
