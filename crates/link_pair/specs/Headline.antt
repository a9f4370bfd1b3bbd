-- What a pair promises, over the folder before and after it. What is said of a name's octets holds where the folder tells that name.
use Rattle.std.specs.Prelude.{◌≡◌, ℕ, suc, max, IsTrue, List, [], ◌∷◌, length}
use Rattle.outside_calls.specs.Folder.{FolderState, octets_at, Said}
use Rattle.outside_calls.specs.Outputs.{Holds}
use Rattle.shared_terms.specs.declared.role.Role.TheVariants.{Originator, Answerer}
use Rattle.shared_terms.specs.Both.{Both}
use Rattle.noise_script.specs.Script.{ScriptValue, IsInLimits, delay_of}
use Rattle.noise_script.specs.Grammar.{ScriptSpelling}
use Rattle.link_run.specs.Run.{Turn}
use Rattle.link_run.specs.Laws.{agreed_srej}
use Rattle.link_run.specs.Taken.{taken_octets}
use Rattle.line_run.specs.Sampled.{Wire}
use Rattle.line_run.specs.Ends.{Left, turns_heard}
use Rattle.line_run.specs.Scripted.{link_of}
use Rattle.line_ends.specs.Causes.{HasCause}
use Rattle.line_ends.specs.Completes.{IsFaint}
use Rattle.command_base.specs.declared.status.Status.{Status}
use Rattle.command_base.specs.declared.status.Status.TheVariants as status
use Rattle.command_base.specs.Job.{Shared}
use Rattle.command_base.specs.Lines.{both_done_line}
use Rattle.line_run.specs.Names.{Written}
use Rattle.run_inputs.specs.Files.{KeptOrPrefix, HoldsWhole}
use Rattle.line_ends.specs.ReadOff.{AreReadOff}
use Rattle.link_pair.specs.Pairs.Beside.{first_wire, second_wire}
use Rattle.link_pair.specs.Pairs.Pair.{Progress, Goes, Ended, turns_in, Lasts, PairAt}
use Rattle.link_pair.specs.Pairs.Ends.{PairEnd, BothDone, firsts_at, PairRunsTo}
use Rattle.link_pair.specs.Pairs.Ends.{by_links, by_line}
use Rattle.link_pair.specs.Pairs.Laws.{AreIsolated}
use Rattle.link_pair.specs.Words.{Names, inputs_of, outputs_of}
use Rattle.link_pair.specs.Answers.{ByAnswer}
use Rattle.link_pair.specs.Ends.{AreFiles, IsFew}

-- ---- one link

-- the turns in which its ends heard something: the last one too, where it ended
abbrev pub heard_in : (c : Wire) (files : Both (List ℕ)) (rounds : ℕ) (p : Progress) → Lasts c (link_of c.script files) rounds p
    → List Turn
heard_in c files rounds (Goes ts ends) l = ts
heard_in c files rounds (Ended ts ends end left) l = turns_heard c (link_of c.script files) l.ran.turns l.ran.ends end left l.ran.ended

-- where it ended, it did so for its cause: no link was given up but for losses that went on
abbrev pub CauseIn : (c : Wire) (files : Both (List ℕ)) (rounds : ℕ) (p : Progress) → Lasts c (link_of c.script files) rounds p → Type 0
CauseIn c files rounds (Goes ts ends) l = Unit {0}
CauseIn c files rounds (Ended ts ends end left) l = HasCause c files end left l.ran

-- A link of a pair came so far: each outcome was read off the line, the received files hold what passed by the numbers that were meant, the
-- trace holds what is left of it, there were few turns, and its end has its cause.
pub record LinkRan (c : Wire) (files : Both (List ℕ)) (f : FolderState) (n : Written) (rounds : ℕ) (p : Progress)
    (l : Lasts c (link_of c.script files) rounds p) (left : Left) : Type 0 where
  pub read_off : AreReadOff c (heard_in c files rounds p l)
  pub got_o : Holds f n.got_o
      (taken_octets (agreed_srej (link_of c.script files)) (delay_of c.script) Originator (heard_in c files rounds p l))
  pub got_a : Holds f n.got_a
      (taken_octets (agreed_srej (link_of c.script files)) (delay_of c.script) Answerer (heard_in c files rounds p l))
  pub trace : Holds f n.trace left.trace
  pub few : IsFew c files rounds p l
  pub cause : CauseIn c files rounds p l

-- ---- both

-- the folder tells each of these names
abbrev pub AreTold : FolderState → List (List ℕ) → Type 0
AreTold f [] = Unit {0}
AreTold f (name ∷ names) = IsTrue (f.tells name) × AreTold f names

-- How far both links came.
pub record Came (script : ScriptValue) (files others : Both (List ℕ)) : Type 0 where
  pub firsts : ℕ
  pub seconds : ℕ
  pub p : Progress
  pub q : Progress
  pub at : PairAt script files others firsts seconds p q

-- as a pair has it that ends so
abbrev pub came_of : (script : ScriptValue) (files others : Both (List ℕ)) (end : PairEnd) (left leaves : Left)
    → PairRunsTo script files others end left leaves → Came script files others
came_of script files others end left leaves (by_links first second e is) = record {
  firsts = suc (max (length e.ts) (length e.us));
  seconds = max (length e.ts) (suc (length e.us));
  p = Ended e.ts e.ends first left;
  q = Ended e.us e.mids second leaves;
  at = e.at;
}
came_of script files others end left leaves (by_line link round cause e is) =
    record { firsts = firsts_at link round; seconds = round; p = e.p; q = e.q; at = e.at }

-- The pair of the folder's script and files ended so, and this holds of each link. Where all inputs are told and the noise of the script is
-- faint, each link ends, and leaves the octets and the trace, as a run of it alone does.
pub record Ran (old new : FolderState) (n : Names) (end : PairEnd) : Type 0 where
  pub script : ScriptValue
  pub limits : IsInLimits script
  pub script_is : IsTrue (old.tells n.script) → ScriptSpelling (octets_at old n.script) script
  pub files : Both (List ℕ)
  pub others : Both (List ℕ)
  pub first_are : AreFiles old n.first files
  pub second_are : AreFiles old n.second others
  pub left : Left
  pub leaves : Left
  pub runs : PairRunsTo script files others end left leaves
  pub came : Came script files others
  pub came_is : came ≡ came_of script files others end left leaves runs
  pub first : LinkRan (first_wire script (turns_in came.q)) files new n.first came.firsts came.p came.at.first left
  pub second : LinkRan (second_wire script (turns_in came.p)) others new n.second came.seconds came.q came.at.second leaves
  pub alone : AreTold old (inputs_of n) → IsFaint script → AreIsolated script files others end left leaves

-- the pair, where the answer is one by which a pair itself ends; done says the last turns of both links
abbrev pub RanBy : FolderState → FolderState → Names → Status → Type 0
RanBy old new n status.Done = (first : ℕ) × (second : ℕ) × Said old new (both_done_line first second) × Ran old new n
    (BothDone first second)
RanBy old new n s = ByAnswer (Ran old new n) (Unit {0}) s

-- Whatever the line does, each end receives a prefix of the file of the other end of its link; done means all four whole; every other end
-- has its cause.
pub record Headline (old new : FolderState) (n : Names) (s : Status) : Type 0 where
  pub shared : Shared (inputs_of n) (outputs_of n) old new s
  pub first_got_o : KeptOrPrefix old new n.first.got_o n.first.answ
  pub first_got_a : KeptOrPrefix old new n.first.got_a n.first.orig
  pub second_got_o : KeptOrPrefix old new n.second.got_o n.second.answ
  pub second_got_a : KeptOrPrefix old new n.second.got_a n.second.orig
  pub first_whole_o : s ≡ status.Done → HoldsWhole old new n.first.got_o n.first.answ
  pub first_whole_a : s ≡ status.Done → HoldsWhole old new n.first.got_a n.first.orig
  pub second_whole_o : s ≡ status.Done → HoldsWhole old new n.second.got_o n.second.answ
  pub second_whole_a : s ≡ status.Done → HoldsWhole old new n.second.got_a n.second.orig
  pub ran : RanBy old new n s
