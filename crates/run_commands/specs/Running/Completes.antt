-- Which answer the inputs have over a sound folder, and when nothing but want of memory keeps a run from being done.
use Rattle.std.specs.Prelude.{◌≡◌, ◌⊎◌, ℕ, ◌*◌, ◌<◌, ◌≤◌, IsTrue, List, length}
use Rattle.outside_calls.specs.Folder.{FolderState, octets_at}
use Rattle.shared_terms.specs.Both.{Both}
use Rattle.noise_script.specs.Script.{ScriptValue}
use Rattle.noise_script.specs.Grammar.{ScriptSpelling}
use Rattle.link_run.specs.Counts.{lost_slots}
use Rattle.line_run.specs.Ends.{RunEnd, Left}
use Rattle.line_ends.specs.Completes.{ScriptRunsTo, heard_turns, IsQuiet, NamesFew, IsUndisturbed}
use Rattle.line_ends.specs.Carried.{LineStays, IsCarried}
use Rattle.command_base.specs.declared.status.Status.{Status}
use Rattle.command_base.specs.declared.status.Status.TheVariants.{NoMemory}
use Rattle.command_base.specs.Sound.{IsSound, DoneUnlessMemory}
use Rattle.run_inputs.specs.Words.{RunNames, texts_of, inputs_of, outputs_of}
use Rattle.run_inputs.specs.Answers.{answer_of}
use Rattle.outside_calls.specs.Outputs.{HoldEach}
use Rattle.line_world.specs.Turns.{held_of}

-- The line doesn't end the run, and fewer slots are lost in it than one for each two tries.
pub record LosesFew (script : ScriptValue) (files : Both (List ℕ)) : Type 0 where
  pub stays : LineStays script files
  pub few : (end : RunEnd) (left : Left) (r : ScriptRunsTo script files end left)
      → 2 * lost_slots (heard_turns script files end left r) < script.tries

-- The inputs are told: a script of at most 65,536 octets, and two files of at most 16,777,216.
pub record AreRight (f : FolderState) (n : RunNames) (script : ScriptValue) : Type 0 where
  pub script_told : IsTrue (f.tells n.script)
  pub script_short : length (octets_at f n.script) ≤ 65536
  pub spelled : ScriptSpelling (octets_at f n.script) script
  pub orig_told : IsTrue (f.tells n.names.orig)
  pub orig_short : length (octets_at f n.names.orig) ≤ 16777216
  pub answ_told : IsTrue (f.tells n.names.answ)
  pub answ_short : length (octets_at f n.names.answ) ≤ 16777216

-- the files that the users hand over
abbrev pub files_at : FolderState → RunNames → Both (List ℕ)
files_at f n = record { orig = octets_at f n.names.orig; answ = octets_at f n.names.answ }

-- the folder is sound, the inputs are right, and this holds of their script and files: then the run is done, but for want of memory
abbrev pub DoneWhere : FolderState → FolderState → RunNames → Status → (ScriptValue → Both (List ℕ) → Type 0) → Type 0
DoneWhere old new n s Holds =
    IsSound old new (inputs_of n) (outputs_of n) → (script : ScriptValue) → AreRight old n script → Holds script (files_at old n)
    → DoneUnlessMemory s

-- The answer is that to this end of a run, and the outputs hold what it leaves.
pub record Answered (new : FolderState) (n : RunNames) (end : RunEnd) (left : Left) (s : Status) : Type 0 where
  pub answer : s ≡ answer_of end
  pub holds : HoldEach new (texts_of n) (held_of left)

-- However the run of right inputs ends over a sound folder, that is the answer, but for want of memory.
abbrev pub AnsweredByItsEnd : FolderState → FolderState → RunNames → Status → Type 0
AnsweredByItsEnd old new n s =
    IsSound old new (inputs_of n) (outputs_of n) → (script : ScriptValue) → AreRight old n script → (end : RunEnd) (left : Left)
    → ScriptRunsTo script (files_at old n) end left → Answered new n end left s ⊎ (s ≡ NoMemory)

-- The run is done, but for want of memory: where it is carried to its end; where it loses few slots; and, whatever else its script says and
-- whatever its files hold, where few are named and noise is faint, so also where the script is quiet, and where nothing disturbs it.
pub record Completes (old new : FolderState) (n : RunNames) (s : Status) : Type 0 where
  pub exact : AnsweredByItsEnd old new n s
  pub carried : DoneWhere old new n s IsCarried
  pub few_losses : DoneWhere old new n s LosesFew
  pub few_named : DoneWhere old new n s (λ script files. NamesFew script)
  pub quiet : DoneWhere old new n s (λ script files. IsQuiet script)
  pub undisturbed : DoneWhere old new n s (λ script files. IsUndisturbed script)
