-- How a tap ends, before its line is said: by its answer, which tap it was, and what the outputs then hold. What is said of a name's octets
-- holds where the folder tells that name.
use Rattle.std.specs.Prelude.{◌⊎◌, ℕ, [], ◌∷◌, Result, Ok, Err}
use Rattle.std.specs.Option.{MatchOption}
use Rattle.scramblers.specs.declared.mode.Mode.TheVariants.{Call, Answer}
use Rattle.outside_calls.specs.Folder.{FolderState, OnlyReads, CountsStand}
use Rattle.outside_calls.specs.declared.folder.FolderFault.{FolderFault}
use Rattle.outside_calls.specs.Outputs.{KeepsAll, SaysNothing, CreatesPart}
use Rattle.noise_script.specs.Script.{ScriptValue, IsInLimits}
use Rattle.line_tap.specs.Ends.{TapEnd}
use Rattle.line_tap.specs.Ends as ends
use Rattle.command_base.specs.declared.status.Status.{Status}
use Rattle.line_tap.specs.Answers.{stop_by}
use Rattle.command_base.specs.declared.stop.Stop.{Stop}
use Rattle.command_base.specs.declared.stop.Stop.TheVariants.{Own, Read, Write, Say, NoMemory}
use Rattle.command_base.specs.Inputs.{IsWithin}
use Rattle.command_base.specs.Job.{Job}
use Rattle.command_base.specs.Lines.{turns_line}
use Rattle.command_base.specs.Stops.{ReadFails}
use Rattle.run_inputs.specs.declared.limits.Limits.{Limits}
use Rattle.run_inputs.specs.Inputs.{Opens, RefusesOwn, FailsToRead}
use Rattle.line_tap.specs.Names.{TapNames, inputs_of, outputs_of, recordings_of}
use Rattle.line_tap.specs.Tap.{AreReadTo}
use Rattle.line_tap.specs.Turns.{TapEnds, TapStops, TapStopsReading}
use Rattle.line_tap.specs.Turn.{no_octets}
use Rattle.line_tap.specs.declared.limits.TheConstants.{LIMITS}
use Rattle.line_tap.specs.Headers.{HasHeader, HasNoHeader}

-- The inputs were opened, nothing else was done, and no fault was counted: they are within their limits, this is the script, and the recordings
-- begin with their headers.
pub record IsBegun (l : Limits) (old now : FolderState) (n : TapNames) (script : ScriptValue) : Type 0 where
  pub opens : Opens l old n.script (recordings_of n) script
  pub headers : AreReadTo old now n no_octets
  pub reads : OnlyReads old now
  pub stand : CountsStand old now

-- The script and both lengths are right, and a recording has no header: the originator's, or the answerer's alone.
pub record HeaderRefused (l : Limits) (f : FolderState) (n : TapNames) (answer : Status) : Type 0 where
  pub script : ScriptValue
  pub opens : Opens l f n.script (recordings_of n) script
  pub bad : HasNoHeader f n.rec_o Call answer ⊎ (HasHeader f n.rec_o Call × HasNoHeader f n.rec_a Answer answer)

-- They are right, and a header wasn't read: the originator's, or, once that is right, the answerer's.
pub record HeaderFails (l : Limits) (old new : FolderState) (n : TapNames) (fault : FolderFault) : Type 0 where
  pub script : ScriptValue
  pub opens : Opens l old n.script (recordings_of n) script
  pub fails : ReadFails old new (n.rec_o ∷ []) fault ⊎ (HasHeader old n.rec_o Call × ReadFails old new (n.rec_a ∷ []) fault)

-- why the inputs are not taken
abbrev pub IsRefused : Limits → FolderState → FolderState → TapNames → Stop → Type 0
IsRefused l old new n (Own answer) = RefusesOwn l old n.script 3 (recordings_of n) 1 answer ⊎ HeaderRefused l old n answer
IsRefused l old new n (Read fault) = FailsToRead l old new n.script (recordings_of n) fault ⊎ HeaderFails l old new n fault
IsRefused l old new n NoMemory = IsWithin old n.script l.script
IsRefused l old new n stop = ⊥

-- The tap of the inputs ends so, and the outputs hold what it leaves.
pub record Tapped (l : Limits) (old new : FolderState) (n : TapNames) (end : TapEnd) : Type 0 where
  pub script : ScriptValue
  pub opens : Opens l old n.script (recordings_of n) script
  pub limits : IsInLimits script
  pub ends : TapEnds script old new n end

-- The folder failed in a turn of it.
pub record StopsInTurn (l : Limits) (old new : FolderState) (n : TapNames) : Type 0 where
  pub script : ScriptValue
  pub opens : Opens l old n.script (recordings_of n) script
  pub stops : TapStops script old new n

-- It failed to read a recording there.
pub record StopsInReading (l : Limits) (old new : FolderState) (n : TapNames) (fault : FolderFault) : Type 0 where
  pub script : ScriptValue
  pub opens : Opens l old n.script (recordings_of n) script
  pub stops : TapStopsReading script old new n
  pub fails : ReadFails old new (recordings_of n) fault

-- An output was not created, once the inputs were opened and both headers read.
pub record StopsCreating (l : Limits) (old new : FolderState) (n : TapNames) : Type 0 where
  pub script : ScriptValue
  pub opens : Opens l old n.script (recordings_of n) script
  pub orig : HasHeader old n.rec_o Call
  pub answ : HasHeader old n.rec_a Answer
  pub creates : CreatesPart old new (outputs_of n)

-- the answers by which a tap itself ends, each by its cause
abbrev pub TappedBy : Limits → FolderState → FolderState → TapNames → Status → Type 0
TappedBy l old new n answer = MatchOption (stop_by answer) ⊥ (Tapped l old new n)

-- why a tap stops: for its inputs, before any output is created, for what they tell, or for the folder
abbrev pub EndsBy : Limits → FolderState → FolderState → TapNames → Stop → Type 0
EndsBy l old new n (Own answer) = (KeepsAll old new × IsRefused l old new n (Own answer)) ⊎ TappedBy l old new n answer
EndsBy l old new n (Read fault) = (KeepsAll old new × IsRefused l old new n (Read fault)) ⊎ StopsInReading l old new n fault
EndsBy l old new n (Write fault) = StopsCreating l old new n ⊎ StopsInTurn l old new n
EndsBy l old new n (Say fault) = ⊥
EndsBy l old new n NoMemory = KeepsAll old new × IsWithin old n.script l.script

-- how a tap ends: done, with so many turns, or before
abbrev pub Ends : Limits → FolderState → FolderState → TapNames → Result ℕ Stop → Type 0
Ends l old new n (Ok turns) = Tapped l old new n (ends.IsDone turns)
Ends l old new n (Err stop) = EndsBy l old new n stop

-- The job of the command: done, its line says how many turns there were.
abbrev pub tap_job : TapNames → Job ℕ
tap_job n = record {
  inputs = inputs_of n;
  outputs = outputs_of n;
  Ends = λ old new end. Ends LIMITS old new n end × SaysNothing old new;
  line_of = turns_line;
}
