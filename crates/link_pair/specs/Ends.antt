-- How a pair ends, before its line is said: by its answer, which pair it was, and what the outputs then hold. What is said of a name's
-- octets holds where the folder tells that name.
use Rattle.std.specs.Prelude.{◌≡◌, ◌⊎◌, ℕ, IsTrue, List, Result, Ok, Err}
use Rattle.outside_calls.specs.Folder.{FolderState, OnlyReads, CountsStand, octets_at}
use Rattle.outside_calls.specs.declared.folder.FolderFault.TheVariants as folder
use Rattle.outside_calls.specs.Outputs.{KeepsAll, SaysNothing, CreatesPart, SomeRose}
use Rattle.shared_terms.specs.Both.{Both}
use Rattle.noise_script.specs.Script.{ScriptValue, IsInLimits}
use Rattle.link_run.specs.Run.{Link}
use Rattle.line_run.specs.Sampled.{Wire}
use Rattle.line_run.specs.Scripted.{link_of}
use Rattle.line_run.specs.Scripts.{HasFewTurns}
use Rattle.line_world.specs.Link.{AreWithin}
use Rattle.line_run.specs.Names.{Written}
use Rattle.command_base.specs.declared.stop.Stop.{Stop}
use Rattle.command_base.specs.declared.stop.Stop.TheVariants.{Own, Read, Write, Say, NoMemory}
use Rattle.command_base.specs.Inputs.{IsWithin}
use Rattle.command_base.specs.Job.{Job}
use Rattle.command_base.specs.Lines.{both_done_line}
use Rattle.run_inputs.specs.declared.limits.Limits.{Limits}
use Rattle.run_inputs.specs.declared.limits.TheConstants.{LIMITS}
use Rattle.run_inputs.specs.Inputs.{Opens, RefusesOwn, FailsToRead}
use Rattle.link_pair.specs.Pairs.Beside.{first_wire, second_wire}
use Rattle.link_pair.specs.Pairs.Pair.{Progress, Goes, Ended, turns_in, Lasts}
use Rattle.link_pair.specs.Pairs.Ends.{PairEnd, BothDone}
use Rattle.link_pair.specs.Half.{LinkStops, LinkStopsReading}
use Rattle.link_pair.specs.Pair.{PairEnded, PairStops}
use Rattle.link_pair.specs.declared.command.LastTurns.{LastTurns}
use Rattle.link_pair.specs.Words.{Names, files_of, inputs_of, outputs_of}
use Rattle.link_pair.specs.Answers.{result_of}

-- The inputs were opened, nothing else was done, and no fault was counted: they are within their limits, and this is the script.
pub record IsBegun (l : Limits) (old now : FolderState) (n : Names) (script : ScriptValue) : Type 0 where
  pub opens : Opens l old n.script (files_of n) script
  pub limits : IsInLimits script
  pub reads : OnlyReads old now
  pub stand : CountsStand old now

-- The files of a link are these.
pub record AreFiles (f : FolderState) (n : Written) (files : Both (List ℕ)) : Type 0 where
  pub within : AreWithin files
  pub orig : IsTrue (f.tells n.orig) → files.orig ≡ octets_at f n.orig
  pub answ : IsTrue (f.tells n.answ) → files.answ ≡ octets_at f n.answ

-- The inputs are within their limits, and are this script and these files of both links.
pub record Takes (l : Limits) (f : FolderState) (n : Names) (script : ScriptValue) (files others : Both (List ℕ)) : Type 0 where
  pub opens : Opens l f n.script (files_of n) script
  pub limits : IsInLimits script
  pub first : AreFiles f n.first files
  pub second : AreFiles f n.second others

-- The pair of the inputs ends so, and the outputs hold what it leaves.
pub record RanTo (l : Limits) (old new : FolderState) (n : Names) (end : PairEnd) : Type 0 where
  pub script : ScriptValue
  pub ended : PairEnded script new n.first n.second end
  pub takes : Takes l old n script ended.files ended.others

-- a link that has come so far made few turns
abbrev pub IsFew : (c : Wire) (files : Both (List ℕ)) (rounds : ℕ) (p : Progress) → Lasts c (link_of c.script files) rounds p → Type 0
IsFew c files rounds (Goes ts ends) l = HasFewTurns c.script files ts ends
IsFew c files rounds (Ended ts ends end left) l = HasFewTurns c.script files l.ran.turns l.ran.ends

-- The folder failed in a round of the pair of the inputs, behind few rounds.
pub record StopsInRound (Stops : Wire → Link → FolderState → Written → ℕ → Progress → Type 0) (l : Limits) (old new : FolderState)
    (n : Names) : Type 0 where
  pub script : ScriptValue
  pub stops : PairStops Stops script new n.first n.second
  pub takes : Takes l old n script stops.files stops.others
  pub first_few : IsFew (first_wire script (turns_in stops.q)) stops.files _ stops.p stops.at.first
  pub second_few : IsFew (second_wire script (turns_in stops.p)) stops.others _ stops.q stops.at.second

-- An output was not created, once the inputs were opened.
pub record StopsCreating (l : Limits) (old new : FolderState) (n : Names) : Type 0 where
  pub script : ScriptValue
  pub opens : Opens l old n.script (files_of n) script
  pub creates : CreatesPart old new (outputs_of n)

-- The pair itself ended, and this is what the job comes to.
pub record RanBy (l : Limits) (old new : FolderState) (n : Names) (result : Result LastTurns Stop) : Type 0 where
  pub end : PairEnd
  pub result_is : result ≡ result_of end
  pub ran : RanTo l old new n end

-- why a pair stops before both links are done: for its inputs, before any output is created, for what becomes of it, or for the folder
abbrev pub EndsBy : Limits → FolderState → FolderState → Names → Stop → Type 0
EndsBy l old new n (Own answer) =
    (KeepsAll old new × RefusesOwn l old n.script 5 (files_of n) 1 answer) ⊎ RanBy l old new n (Err (Own answer))
EndsBy l old new n (Read fault) =
    (KeepsAll old new × FailsToRead l old new n.script (files_of n) fault)
    ⊎ ((fault ≡ folder.Failed) × SomeRose old.read_faults new.read_faults (files_of n) × StopsInRound LinkStopsReading l old new n)
EndsBy l old new n (Write fault) = StopsCreating l old new n ⊎ StopsInRound LinkStops l old new n
EndsBy l old new n (Say fault) = ⊥
EndsBy l old new n NoMemory = KeepsAll old new × IsWithin old n.script l.script

-- how a pair ends: both links done in their turns of these numbers, or before
abbrev pub Ends : Limits → FolderState → FolderState → Names → Result LastTurns Stop → Type 0
Ends l old new n (Ok turns) = RanTo l old new n (BothDone turns.first turns.second)
Ends l old new n (Err stop) = EndsBy l old new n stop

-- The job of the command: done, its line says the last turns.
abbrev pub pair_job : Names → Job LastTurns
pair_job n = record {
  inputs = inputs_of n;
  outputs = outputs_of n;
  Ends = λ old new end. Ends LIMITS old new n end × SaysNothing old new;
  line_of = λ turns. both_done_line turns.first turns.second;
}
