-- Which answer the inputs have over a sound folder, and when nothing but want of memory keeps a pair from being done.
use Rattle.std.specs.Prelude.{◌≡◌, ◌⊎◌, ℕ, ◌*◌, ◌<◌, ◌≤◌, IsTrue, List, length}
use Rattle.outside_calls.specs.Folder.{FolderState, octets_at}
use Rattle.outside_calls.specs.Outputs.{HoldEach}
use Rattle.shared_terms.specs.Both.{Both}
use Rattle.noise_script.specs.Script.{ScriptValue}
use Rattle.noise_script.specs.Grammar.{ScriptSpelling}
use Rattle.link_run.specs.Counts.{lost_slots}
use Rattle.link_run.specs.Run.{Turn}
use Rattle.line_run.specs.Ends.{RunEnd, Left, turns_heard, StarvedBy, GivesUp}
use Rattle.line_run.specs.Scripted.{link_of}
use Rattle.line_ends.specs.Completes.{IsQuiet}
use Rattle.command_base.specs.declared.status.Status.{Status}
use Rattle.command_base.specs.declared.status.Status.TheVariants.{NoMemory}
use Rattle.command_base.specs.Sound.{IsSound, DoneUnlessMemory}
use Rattle.line_run.specs.Names.{Written}
use Rattle.line_run.specs.Names as written
use Rattle.line_world.specs.Turns.{held_of}
use Rattle.line_ends.specs.Completes.{NamesFew, IsUndisturbed}
use Rattle.link_pair.specs.Pairs.Beside.{first_wire, second_wire}
use Rattle.link_pair.specs.Pairs.Ends.{PairEnd, IsByLine, BothEnd, PairRunsTo}
use Rattle.link_pair.specs.Words.{Names, inputs_of, outputs_of}
use Rattle.link_pair.specs.Answers.{answer_of}

-- The line doesn't end the pair of a script and these files: it isn't lost, and nothing received is a chance match.
abbrev pub LineStays : ScriptValue → Both (List ℕ) → Both (List ℕ) → Type 0
LineStays script files others = (end : PairEnd) (left leaves : Left) → PairRunsTo script files others end left leaves → IsByLine end → ⊥

-- the turns in which each of two links that have ended heard something
abbrev pub first_heard : (script : ScriptValue) (files others : Both (List ℕ)) (a b : RunEnd) (left leaves : Left)
    → BothEnd script files others a b left leaves → List Turn
first_heard script files others a b left leaves e =
    turns_heard (first_wire script e.us) (link_of script files) e.at.first.ran.turns e.at.first.ran.ends a left e.at.first.ran.ended

abbrev pub second_heard : (script : ScriptValue) (files others : Both (List ℕ)) (a b : RunEnd) (left leaves : Left)
    → BothEnd script files others a b left leaves → List Turn
second_heard script files others a b left leaves e =
    turns_heard (second_wire script e.ts)
    (link_of script others) e.at.second.ran.turns e.at.second.ran.ends b leaves e.at.second.ran.ended

-- The line doesn't end the pair, and losses don't go on for so long at a link that one of its ends gives up.
pub record IsCarried (script : ScriptValue) (files others : Both (List ℕ)) : Type 0 where
  pub stays : LineStays script files others
  pub first : (a b : RunEnd) (left leaves : Left) (e : BothEnd script files others a b left leaves) → GivesUp a
      → StarvedBy script (first_heard script files others a b left leaves e) → ⊥
  pub second : (a b : RunEnd) (left leaves : Left) (e : BothEnd script files others a b left leaves) → GivesUp b
      → StarvedBy script (second_heard script files others a b left leaves e) → ⊥

-- The line doesn't end the pair, and fewer slots are lost of each link than one for each two tries.
pub record LosesFew (script : ScriptValue) (files others : Both (List ℕ)) : Type 0 where
  pub stays : LineStays script files others
  pub first : (a b : RunEnd) (left leaves : Left) (e : BothEnd script files others a b left leaves)
      → 2 * lost_slots (first_heard script files others a b left leaves e) < script.tries
  pub second : (a b : RunEnd) (left leaves : Left) (e : BothEnd script files others a b left leaves)
      → 2 * lost_slots (second_heard script files others a b left leaves e) < script.tries

-- A link's two files are told, of at most 16,777,216 octets each.
pub record AreTold (f : FolderState) (n : Written) : Type 0 where
  pub orig_told : IsTrue (f.tells n.orig)
  pub orig_short : length (octets_at f n.orig) ≤ 16777216
  pub answ_told : IsTrue (f.tells n.answ)
  pub answ_short : length (octets_at f n.answ) ≤ 16777216

-- The inputs are told: a script of at most 65,536 octets, and the files of both links.
pub record AreRight (f : FolderState) (n : Names) (script : ScriptValue) : Type 0 where
  pub script_told : IsTrue (f.tells n.script)
  pub script_short : length (octets_at f n.script) ≤ 65536
  pub spelled : ScriptSpelling (octets_at f n.script) script
  pub first : AreTold f n.first
  pub second : AreTold f n.second

-- the files that the users of a link hand over
abbrev pub files_at : FolderState → Written → Both (List ℕ)
files_at f n = record { orig = octets_at f n.orig; answ = octets_at f n.answ }

-- the folder is sound, the inputs are right, and this holds of their script and files: then both links are done, but for want of memory
abbrev pub DoneWhere : FolderState → FolderState → Names → Status → (ScriptValue → Both (List ℕ) → Both (List ℕ) → Type 0) → Type 0
DoneWhere old new n s Holds =
    IsSound old new (inputs_of n) (outputs_of n) → (script : ScriptValue) → AreRight old n script
    → Holds script (files_at old n.first) (files_at old n.second) → DoneUnlessMemory s

-- The answer is that to this end of a pair, and the outputs hold what it leaves.
pub record Answered (new : FolderState) (n : Names) (end : PairEnd) (left leaves : Left) (s : Status) : Type 0 where
  pub answer : s ≡ answer_of end
  pub first : HoldEach new (written.outputs_of n.first) (held_of left)
  pub second : HoldEach new (written.outputs_of n.second) (held_of leaves)

-- However the pair of right inputs ends over a sound folder, that is the answer, but for want of memory.
abbrev pub AnsweredByItsEnd : FolderState → FolderState → Names → Status → Type 0
AnsweredByItsEnd old new n s =
    IsSound old new (inputs_of n) (outputs_of n) → (script : ScriptValue) → AreRight old n script → (end : PairEnd) (left leaves : Left)
    → PairRunsTo script (files_at old n.first) (files_at old n.second) end left leaves → Answered new n end left leaves s ⊎ (s ≡ NoMemory)

-- Both links are done, but for want of memory: where they are carried to their ends; where each loses few slots; and, whatever else the
-- script says and whatever the files hold, where few are named and noise is faint, so also where the script is quiet, and where nothing
-- disturbs it.
pub record Completes (old new : FolderState) (n : Names) (s : Status) : Type 0 where
  pub exact : AnsweredByItsEnd old new n s
  pub carried : DoneWhere old new n s IsCarried
  pub few_losses : DoneWhere old new n s LosesFew
  pub few_named : DoneWhere old new n s (λ script files others. NamesFew script)
  pub quiet : DoneWhere old new n s (λ script files others. IsQuiet script)
  pub undisturbed : DoneWhere old new n s (λ script files others. IsUndisturbed script)
