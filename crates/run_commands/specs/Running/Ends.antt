-- How a run ends, before its line is said: by its answer, which run it was, and what the outputs then hold. What is said of a name's octets
-- holds where the folder tells that name.
use Rattle.std.specs.Prelude.{◌≡◌, ◌⊎◌, ℕ, IsTrue, List, Result, Ok, Err}
use Rattle.std.specs.Option.{MatchOption}
use Rattle.outside_calls.specs.Folder.{FolderState, OnlyReads, CountsStand, octets_at}
use Rattle.outside_calls.specs.declared.folder.FolderFault.TheVariants as folder
use Rattle.shared_terms.specs.Both.{Both}
use Rattle.noise_script.specs.Script.{ScriptValue, IsInLimits}
use Rattle.line_run.specs.Ends.{RunEnd, Left, RunsTo}
use Rattle.line_run.specs.Ends as runs
use Rattle.line_run.specs.Scripted.{wire_of, link_of}
use Rattle.line_run.specs.Scripts.{HasFewTurns}
use Rattle.line_world.specs.Link.{AreWithin}
use Rattle.command_base.specs.declared.status.Status.{Status}
use Rattle.command_base.specs.declared.stop.Stop.{Stop}
use Rattle.command_base.specs.declared.stop.Stop.TheVariants.{Own, Read, Write, Say, NoMemory}
use Rattle.command_base.specs.Inputs.{IsWithin}
use Rattle.command_base.specs.Job.{Job}
use Rattle.command_base.specs.Lines.{done_line}
use Rattle.outside_calls.specs.Outputs.{KeepsAll, SaysNothing, Creates, CreatesPart}
use Rattle.run_inputs.specs.declared.limits.Limits.{Limits}
use Rattle.run_inputs.specs.declared.limits.TheConstants.{LIMITS}
use Rattle.run_inputs.specs.Words.{RunNames, files_of, texts_of, inputs_of, outputs_of}
use Rattle.run_inputs.specs.Answers.{stop_by}
use Rattle.run_inputs.specs.Inputs.{Opens, RefusesOwn, FailsToRead}
use Rattle.outside_calls.specs.Outputs.{HoldEach, SomeRose}
use Rattle.line_world.specs.Tapes.{HoldTapes}
use Rattle.line_world.specs.Turns.{StopsAfter, StopsReading, TapesStop, held_of}
use Rattle.run_commands.specs.Running.Tapes.{HeadsPartly}

-- The inputs were opened, nothing else was done, and no fault was counted: they are within their limits, and this is the script.
pub record IsBegun (l : Limits) (old now : FolderState) (n : RunNames) (script : ScriptValue) : Type 0 where
  pub opens : Opens l old n.script (files_of n) script
  pub limits : IsInLimits script
  pub reads : OnlyReads old now
  pub stand : CountsStand old now

-- The inputs are within their limits, and are this script and these files.
pub record Takes (l : Limits) (f : FolderState) (n : RunNames) (script : ScriptValue) (files : Both (List ℕ)) : Type 0 where
  pub opens : Opens l f n.script (files_of n) script
  pub limits : IsInLimits script
  pub within : AreWithin files
  pub orig : IsTrue (f.tells n.names.orig) → files.orig ≡ octets_at f n.names.orig
  pub answ : IsTrue (f.tells n.names.answ) → files.answ ≡ octets_at f n.names.answ

-- The run of the inputs ends so, the outputs hold what it leaves, and the recordings what both ends sent in it.
pub record RanTo (l : Limits) (old new : FolderState) (n : RunNames) (end : RunEnd) : Type 0 where
  pub script : ScriptValue
  pub files : Both (List ℕ)
  pub takes : Takes l old n script files
  pub left : Left
  pub run : RunsTo (wire_of script) (link_of script files) end left
  pub holds : HoldEach new (texts_of n) (held_of left)
  pub taped : HoldTapes new n.tapes (wire_of script) run.turns

-- The folder failed in a turn of the run of the inputs, behind few turns.
pub record StopsInTurn (l : Limits) (old new : FolderState) (n : RunNames) : Type 0 where
  pub script : ScriptValue
  pub files : Both (List ℕ)
  pub takes : Takes l old n script files
  pub stops : StopsAfter (wire_of script) (link_of script files) new n.names
  pub taped : TapesStop (wire_of script) (link_of script files) new n.names n.tapes stops
  pub few : HasFewTurns script files stops.turns stops.ends

-- It failed to read a file that is sent.
abbrev pub StopsInReading : Limits → FolderState → FolderState → RunNames → Type 0
StopsInReading l old new n =
    (s : StopsInTurn l old new n) × StopsReading (wire_of s.script) (link_of s.script s.files) new n.names n.tapes s.stops

-- An output was not created, once the inputs were opened.
pub record StopsCreating (l : Limits) (old new : FolderState) (n : RunNames) : Type 0 where
  pub script : ScriptValue
  pub opens : Opens l old n.script (files_of n) script
  pub creates : CreatesPart old new (outputs_of n)

-- The outputs were created, and a recording's header was not written.
pub record StopsHeading (l : Limits) (old new : FolderState) (n : RunNames) : Type 0 where
  pub script : ScriptValue
  pub opens : Opens l old n.script (files_of n) script
  pub creates : Creates new (texts_of n)
  pub heads : HeadsPartly new n.tapes

-- the answers by which a run itself ends, each by its cause
abbrev pub RanBy : Limits → FolderState → FolderState → RunNames → Status → Type 0
RanBy l old new n answer = MatchOption (stop_by answer) ⊥ (RanTo l old new n)

-- why a run stops with less than both files: for its inputs, before any output is created, for what becomes of it, or for the folder
abbrev pub EndsBy : Limits → FolderState → FolderState → RunNames → Stop → Type 0
EndsBy l old new n (Own answer) = (KeepsAll old new × RefusesOwn l old n.script 3 (files_of n) 1 answer) ⊎ RanBy l old new n answer
EndsBy l old new n (Read fault) =
    (KeepsAll old new × FailsToRead l old new n.script (files_of n) fault)
    ⊎ ((fault ≡ folder.Failed) × SomeRose old.read_faults new.read_faults (files_of n) × StopsInReading l old new n)
EndsBy l old new n (Write fault) = StopsCreating l old new n ⊎ (StopsHeading l old new n ⊎ StopsInTurn l old new n)
EndsBy l old new n (Say fault) = ⊥
EndsBy l old new n NoMemory = KeepsAll old new × IsWithin old n.script l.script

-- how a run ends: done in the turn of that number, or before
abbrev pub Ends : Limits → FolderState → FolderState → RunNames → Result ℕ Stop → Type 0
Ends l old new n (Ok turn) = RanTo l old new n (runs.IsDone turn)
Ends l old new n (Err stop) = EndsBy l old new n stop

-- The job of the command: done, its line says the last turn.
abbrev pub run_job : RunNames → Job ℕ
run_job n = record {
  inputs = inputs_of n;
  outputs = outputs_of n;
  Ends = λ old new end. Ends LIMITS old new n end × SaysNothing old new;
  line_of = done_line;
}
