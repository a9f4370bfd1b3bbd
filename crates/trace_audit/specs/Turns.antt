-- Where the turns of an audit have come. What is said of a name's octets holds where the folder tells that name.
use Rattle.std.specs.Prelude.{◌≡◌, ℕ, ◌<◌, ◌≤◌, ◌^◌, IsTrue, Bool, true, false, ◌+◌, List, [], ◌∷◌, ◌++◌, length, Result, Ok, Err}
use Rattle.outside_calls.specs.Folder.{FolderState}
use Rattle.outside_calls.specs.declared.folder.FolderFault.TheVariants as folder
use Rattle.outside_calls.specs.Outputs.{OnlyPuts}
use Rattle.shared_terms.specs.Both.{Both}
use Rattle.noise_script.specs.Script.{ScriptValue}
use Rattle.link_run.specs.Run.{Accounts, Turn}
use Rattle.line_run.specs.Ends.{RunEnd, Left, RunsTo}
use Rattle.line_run.specs.Scripted.{wire_of, link_of}
use Rattle.line_run.specs.Stream.{both_sent_by}
use Rattle.line_run.specs.Names.{Written, outputs_of}
use Rattle.line_world.specs.Link.{AreWithin}
use Rattle.line_world.specs.World.{KnowsFiles, WorldAfter, script_of, modems_of, lines_of}
use Rattle.line_world.specs.Turn.{TurnAnswers, TurnCounts}
use Rattle.line_world.specs.declared.world.World.{World}
use Rattle.line_world.specs.declared.step.Step.{Step}
use Rattle.line_world.specs.declared.step.Step.TheVariants as steps
use Rattle.line_run.specs.declared.fault.RunFault.{RunFault}
use Rattle.line_run.specs.declared.fault.RunFault.TheVariants as faults
use Rattle.command_base.specs.declared.stop.Stop.{Stop}
use Rattle.command_base.specs.declared.stop.Stop.TheVariants.{Own, Read, Write, Say, NoMemory}
use Rattle.command_base.specs.declared.status.Status.TheVariants.{AuditNo}
use Rattle.trace_audit.specs.Differences.{text_of, AreWhole, IsCut}
use Rattle.trace_audit.specs.Compared.{Compared, IsFew, audited}
use Rattle.trace_audit.specs.declared.comparison.Comparison.{Comparison}
use Rattle.trace_audit.specs.declared.comparison.Difference.{Difference}
use Rattle.trace_audit.specs.Verdict.{IsFound}
use Rattle.trace_audit.specs.Lines.{AreLines, trace_lines}
use Rattle.program_folders.specs.Audited.{audit_state, swallowed}
use Rattle.program_folders.specs.Passed.{OnlyPassed}

-- whether the run goes on behind a turn, or why the audit stops in it
abbrev pub step_end : Result Step RunFault → Result Bool Stop
step_end (Ok steps.Going) = Ok true
step_end (Ok (steps.Done turn)) = Ok false
step_end (Err faults.ReadFault) = Err (Read folder.Failed)
step_end (Err faults.WriteFault) = Err (Write folder.Failed)
step_end (Err faults.NoMemory) = Err NoMemory
step_end (Err fault) = Ok false

-- the folder of an audit over that folder, with so many refusals of its own
abbrev pub held_by : FolderState → Written → List ℕ → ℕ → FolderState
held_by f n text refusals = audit_state f (swallowed n.got_o n.got_a n.trace) text refusals

-- A turn was made over such a folder, which held nothing before it.
pub record Watched (w v : World) (old new : FolderState) (n : Written) (step : Result Step RunFault) (text : List ℕ) : Type 0 where
  pub refusals : ℕ
  pub passed : OnlyPassed old new 0 refusals
  pub turn : (files : Both (List ℕ)) (ts : List Turn) (ends : Accounts) → WorldAfter w files ts ends → AreWithin files
      → TurnAnswers (modems_of v) (lines_of v) (wire_of (script_of v)) 1 (both_sent_by 0 ts) (held_by old n [] 0)
      (held_by new n text refusals) n files ts ends step
  pub only : OnlyPuts (held_by old n [] 0) (held_by new n text refusals) (outputs_of n)
  pub counts : TurnCounts (held_by old n [] 0) (held_by new n text refusals) n step

-- The run goes on behind some turns, and these are the lines of its trace.
pub record StillRuns (w : World) (f : FolderState) (n : Written) (lines : List (List ℕ)) : Type 0 where
  pub files : Both (List ℕ)
  pub knows : KnowsFiles f n files
  pub turns : List Turn
  pub ends : Accounts
  pub world : WorldAfter w files turns ends
  pub lines_is : lines ≡ trace_lines turns
  pub whole : AreWhole lines

-- The run of a script has ended, and these are the lines of its trace.
pub record HasRun (script : ScriptValue) (f : FolderState) (n : Written) (lines : List (List ℕ)) : Type 0 where
  pub files : Both (List ℕ)
  pub knows : KnowsFiles f n files
  pub end : RunEnd
  pub left : Left
  pub run : RunsTo (wire_of script) (link_of script files) end left
  pub cut : IsCut left.trace lines

-- either of both
abbrev pub ComesTo : Bool → World → FolderState → Written → List (List ℕ) → Type 0
ComesTo true w f n lines = StillRuns w f n lines
ComesTo false w f n lines = HasRun (script_of w) f n lines

-- A turn was made behind these lines, and this is the text of the lines that it adds.
pub record TurnMade (goes_on : Bool) (w : World) (f : FolderState) (n : Written) (before : List (List ℕ)) (text : List ℕ) : Type 0 where
  pub lines : List (List ℕ)
  pub text_is : text ≡ text_of lines
  pub are_lines : AreLines lines
  pub few : length lines ≤ 2
  pub comes : ComesTo goes_on w f n (before ++ lines)

-- All lines so far were compared with the octets of a name.
pub record AreCompared (goes_on : Bool) (w : World) (f : FolderState) (n : Written) (trace : List ℕ) (c : Comparison) : Type 0 where
  pub lines : List (List ℕ)
  pub comes : ComesTo goes_on w f n lines
  pub compared : IsTrue (f.tells trace) → Compared (audited f trace) lines c
  pub few : IsFew (length lines) c
  pub bound : length lines < 2 ^ 42

-- so many lines more are few
abbrev pub HasFew : ℕ → Comparison → Type 0
HasFew more c = (n : ℕ) × (n + more < 2 ^ 50) × IsFew n c

-- a name was not read, or there was no memory
abbrev pub IsReading : Stop → Type 0
IsReading (Own answer) = ⊥
IsReading (Read fault) = Unit {0}
IsReading (Write fault) = ⊥
IsReading (Say fault) = ⊥
IsReading NoMemory = Unit {0}

-- the names that are read: the files, and the trace
abbrev pub audit_inputs : Written → List ℕ → List (List ℕ)
audit_inputs n trace = n.orig ∷ n.answ ∷ trace ∷ []

-- The run of a script and of these files was made to its end, and this was found of a trace.
pub record RunFound (script : ScriptValue) (f : FolderState) (n : Written) (trace : List ℕ) (found : Result ℕ Difference) : Type 0 where
  pub files : Both (List ℕ)
  pub knows : KnowsFiles f n files
  pub end : RunEnd
  pub left : Left
  pub run : RunsTo (wire_of script) (link_of script files) end left
  pub found_is : IsTrue (f.tells trace) → IsFound left.trace (audited f trace) found

-- as an audit ends by what is found
abbrev pub found_end : Result ℕ Difference → Result ℕ Stop
found_end (Ok lines) = Ok lines
found_end (Err d) = Err (Own (AuditNo d.line d.cause))

-- how the turns of an audit end: something is found, or a fault of the folder stops them, or want of memory
abbrev pub RunIs : ScriptValue → FolderState → Written → List ℕ → Result ℕ Stop → Type 0
RunIs script f n trace (Ok lines) = RunFound script f n trace (Ok lines)
RunIs script f n trace (Err (Own (AuditNo line cause))) = RunFound script f n trace (Err (record { line = line; cause = cause }))
RunIs script f n trace (Err (Own answer)) = ⊥
RunIs script f n trace (Err (Read fault)) = Unit {0}
RunIs script f n trace (Err (Write fault)) = ⊥
RunIs script f n trace (Err (Say fault)) = ⊥
RunIs script f n trace (Err NoMemory) = Unit {0}
