-- What the outputs hold of a run: what its turns left, and a part of what the next turn adds where the folder fails in it.
use Rattle.std.specs.Prelude.{◌≡◌, ◌⊎◌, ℕ, List, [], ◌∷◌, length, Result, Ok, Err}
use Rattle.std.specs.List.{concat}
use Rattle.std.specs.Option.{MatchOption}
use Rattle.outside_calls.specs.Folder.{FolderState}
use Rattle.shared_terms.specs.declared.role.Role.{Role}
use Rattle.shared_terms.specs.Both.{Both, of}
use Rattle.line_texts.specs.LineText.{chance_line}
use Rattle.link_run.specs.Counts.{lost_slots, sent_again}
use Rattle.link_run.specs.End.{deliveries}
use Rattle.link_run.specs.Run.{Link, Accounts, Turn}
use Rattle.link_run.specs.Outcomes.{Outcome, Going, TurnIs}
use Rattle.link_run.specs.Trace.{trace_text, turn_text}
use Rattle.line_run.specs.Sampled.{Wire, HeardIn, LineRun, IsChanceMatch}
use Rattle.line_run.specs.Ends.{RunEnd, Left, Leaves, RunsTo}
use Rattle.line_run.specs.Ends as runs
use Rattle.line_run.specs.Scripted.{wire_of, link_of}
use Rattle.noise_script.specs.Script.{ScriptValue}
use Rattle.outside_calls.specs.Outputs.{HoldEach, HoldPart, joined}
use Rattle.line_run.specs.Names.{Written, outputs_of}
use Rattle.line_run.specs.Recorded.{Tapes}
use Rattle.line_world.specs.Tapes.{HoldTapes, HoldTapesPartly}
use Rattle.line_run.specs.Faults.{fault_end}
use Rattle.line_world.specs.World.{KnowsFiles}
use Rattle.line_run.specs.declared.fault.RunFault.{RunFault}
use Rattle.line_run.specs.declared.fault.RunFault.TheVariants as faults

-- what is left of each output
abbrev pub held_of : Left → List (List ℕ)
held_of left = left.got.orig ∷ left.got.answ ∷ left.trace ∷ []

-- What a turn after these adds, whatever it comes to: what both ends take in it, and its two lines of the trace.
pub record AddsTurn (c : Wire) (link : Link) (ts : List Turn) (ends : Accounts) (more : Left) : Type 0 where
  pub turn : Turn
  pub mid : Accounts
  pub outcome : Outcome
  pub heard : HeardIn c ts turn
  pub is : TurnIs link ts ends turn mid outcome
  pub got_is : (role : Role) → of role more.got ≡ concat (deliveries (of role mid))
  pub trace_is : more.trace ≡ turn_text (length ts) turn

-- What is added where a slot of that turn is a chance match: one line of the trace.
pub record AddsChance (c : Wire) (ts : List Turn) (ends : Accounts) (more : Left) : Type 0 where
  pub role : Role
  pub is : IsChanceMatch c ts ends role
  pub got_is : (side : Role) → of side more.got ≡ []
  pub trace_is : more.trace ≡ chance_line (length ts) role

-- The folder failed in the turn after some: the outputs hold what these left, and a part of what that turn adds.
pub record StopsAfter (c : Wire) (link : Link) (f : FolderState) (n : Written) : Type 0 where
  pub turns : List Turn
  pub ends : Accounts
  pub run : LineRun c link turns ends
  pub left : Left
  pub leaves : Leaves ends (trace_text turns) left
  pub more : Left
  pub adds : AddsTurn c link turns ends more ⊎ AddsChance c turns ends more
  pub holds : HoldPart f (outputs_of n) (held_of left) (held_of more)

-- It failed to read a file that is sent: the outputs hold all that both users are given in that turn, and nothing of its lines.
pub record StopsReading (c : Wire) (link : Link) (f : FolderState) (n : Written) (tapes : Tapes) (s : StopsAfter c link f n)
    : Type 0 where
  pub adds : AddsTurn c link s.turns s.ends s.more
  pub holds : HoldEach f (outputs_of n) (joined (held_of s.left) (s.more.got.orig ∷ s.more.got.answ ∷ []))
  pub taped : HoldTapes f tapes c s.turns

-- It failed as what was sent in that turn was recorded: the outputs hold all that the turn adds.
pub record StopsTaping (c : Wire) (link : Link) (f : FolderState) (n : Written) (tapes : Tapes) (s : StopsAfter c link f n)
    : Type 0 where
  pub adds : AddsTurn c link s.turns s.ends s.more
  pub goes_on : adds.outcome ≡ Going
  pub holds : HoldEach f (outputs_of n) (joined (held_of s.left) (held_of s.more))
  pub taped : HoldTapesPartly f tapes c s.turns adds.turn

-- what recordings hold where the folder fails in a turn: what was sent before it, unless it fails as they are written
abbrev pub TapesStop : (c : Wire) (link : Link) (f : FolderState) (n : Written) (tapes : Tapes) → StopsAfter c link f n → Type 0
TapesStop c link f n tapes s = HoldTapes f tapes c s.turns ⊎ StopsTaping c link f n tapes s

-- ---- what turns come to that are made over a folder

-- The run of a script and these files ended so.
pub record RunEnds (script : ScriptValue) (f : FolderState) (n : Written) (tapes : Tapes) (end : RunEnd) : Type 0 where
  pub files : Both (List ℕ)
  pub knows : KnowsFiles f n files
  pub left : Left
  pub run : RunsTo (wire_of script) (link_of script files) end left
  pub holds : HoldEach f (outputs_of n) (held_of left)
  pub taped : HoldTapes f tapes (wire_of script) run.turns

-- It was done in this turn, with so many slots lost and so many segments sent again in all its turns.
pub record RunCounts (script : ScriptValue) (f : FolderState) (n : Written) (tapes : Tapes) (turn lost again : ℕ) : Type 0 where
  pub ran : RunEnds script f n tapes (runs.IsDone turn)
  pub lost_is : lost ≡ lost_slots (ran.run.ended.last ∷ ran.run.turns)
  pub again_is : again ≡ sent_again (ran.run.ended.last ∷ ran.run.turns)

-- The folder failed in a turn of it.
pub record RunStops (script : ScriptValue) (f : FolderState) (n : Written) (tapes : Tapes) : Type 0 where
  pub files : Both (List ℕ)
  pub knows : KnowsFiles f n files
  pub stops : StopsAfter (wire_of script) (link_of script files) f n
  pub taped : TapesStop (wire_of script) (link_of script files) f n tapes stops

-- It failed to read a file that is sent.
abbrev pub RunStopsReading : ScriptValue → FolderState → Written → Tapes → Type 0
RunStopsReading script f n tapes =
    (s : RunStops script f n tapes) × StopsReading (wire_of script) (link_of script s.files) f n tapes s.stops

-- how turns end with a fault
abbrev pub FaultEnds : ScriptValue → FolderState → Written → Tapes → RunFault → Type 0
FaultEnds script f n tapes faults.ReadFault = RunStopsReading script f n tapes
FaultEnds script f n tapes faults.WriteFault = RunStops script f n tapes
FaultEnds script f n tapes faults.NoMemory = RunStops script f n tapes
FaultEnds script f n tapes fault = MatchOption (fault_end fault) ⊥ (RunEnds script f n tapes)

-- how turns end
abbrev pub TurnsEnd : ScriptValue → FolderState → Written → Tapes → Result ℕ RunFault → Type 0
TurnsEnd script f n tapes (Ok turn) = RunEnds script f n tapes (runs.IsDone turn)
TurnsEnd script f n tapes (Err fault) = FaultEnds script f n tapes fault
