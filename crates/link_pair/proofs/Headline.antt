-- From every answer to the headline.
use Rattle.link_pair.proofs.Names.{arith, ◌≡◌, ◌⊎◌, ℕ, Bool, true, false, List, [], ◌++◌, Some, Err, refl, sym, ◌∙◌, ap, subst, last-only}
use Rattle.link_pair.proofs.Names.{Answers, both_done_line, Status, Stop, AreOctets, may-run, runs-over, IsFaint, Left, Written, Wire}
use Rattle.link_pair.proofs.Names.{link_of, held_of, answer_of, result_of, RanTo, EndsBy, pair_job, left_by, first_wire, second_wire}
use Rattle.link_pair.proofs.Names.{PairEnd, BothDone, LeavesOf, PairRunsTo, FaintPairsAreIsolated, Progress, Goes, Ended, turns_in, Lasts}
use Rattle.link_pair.proofs.Names.{Names, files_of, inputs_of, LastTurns, BreaksAreOctets, ScriptValue, IsInLimits, delay_of, Holds-kept}
use Rattle.link_pair.proofs.Names.{FolderState, GoesOn, octets_at, Holds, HoldEach, KeepsAll, OnlyOutputs, RefusesOwn, LIMITS, Both, of}
use Rattle.link_pair.proofs.Names.{Role, Originator, Answerer}
use Rattle.std.specs.Option.{option_map}
use Rattle.outside_calls.proofs.Steps.{told_later}
use Rattle.link_run.specs.Laws.{agreed_srej}
use Rattle.link_run.specs.Taken.{taken_octets}
use Rattle.command_base.specs.declared.status.Status.TheVariants as status
use Rattle.command_base.specs.declared.stop.Stop.TheVariants as stops
use Rattle.command_base.proofs.Jobs.{done-of, shared-of}
use Rattle.run_inputs.proofs.Answering.{stopped-so}
use Rattle.line_run.specs.Names as written
use Rattle.run_inputs.specs.Files.{HoldsWhole}
use Rattle.line_ends.specs.ReadOff.{AreReadOff}
use Rattle.run_inputs.proofs.Files.{prefix-later}
use Rattle.line_ends.proofs.ReadingOff.{run-read, turns-read}
use Rattle.link_pair.specs.Pairs.Laws.{AreIsolated}
use Rattle.link_pair.specs.Ends as ends
use Rattle.link_pair.specs.Headline.{AreTold, heard_in, CauseIn, LinkRan, Came, came_of, Ran, RanBy, Headline}
use Rattle.link_pair.proofs.Running.{few-of}
use Rattle.link_pair.proofs.Refusing.{own-answer}
use Rattle.link_pair.proofs.Prefixes.{HeadLaws, BothPrefix, given-is, both-of}

-- ---- one link of a pair that ended

-- what is left of it is what passed
passed : HeadLaws → (c : Wire) (files : Both (List ℕ)) (rounds : ℕ) (p : Progress) → IsInLimits c.script
    → (l : Lasts c (link_of c.script files) rounds p) → (role : Role)
    → of role (left_by p).got ≡ taken_octets (agreed_srej (link_of c.script files)) (delay_of c.script) role (heard_in c files rounds p l)
passed laws c files rounds (Goes ts ends) h l role =
    given-is ts ends role ∙ sym (laws.took (link_of c.script files) (delay_of c.script) ts ends
    (runs-over laws.runs c files ts ends h l.run) role)
passed laws c files rounds (Ended ts ends end left) h l role = grind (arith, may-run)

read-off : HeadLaws → (c : Wire) (files : Both (List ℕ)) (rounds : ℕ) (p : Progress) → (l : Lasts c (link_of c.script files) rounds p)
    → AreReadOff c (heard_in c files rounds p l)
read-off laws c files rounds p l = grind (arith, turns-read, run-read)

cause-in : HeadLaws → (c : Wire) (files : Both (List ℕ)) (rounds : ℕ) (p : Progress) → IsInLimits c.script
    → (l : Lasts c (link_of c.script files) rounds p) → CauseIn c files rounds p l
cause-in laws c files rounds p h l = grind (arith)

link-ran : HeadLaws → (c : Wire) (files : Both (List ℕ)) (before new : FolderState) (n : Written) (rounds : ℕ) (p : Progress)
    (left : Left)
    → IsInLimits c.script → OnlyOutputs before new [] → (l : Lasts c (link_of c.script files) rounds p)
    → ((role : Role) → of role left.got ≡ of role (left_by p).got) → HoldEach before (written.outputs_of n) (held_of left)
    → LinkRan c files new n rounds p l left
link-ran laws c files before new n rounds p left h last l same holds = record {
  read_off = read-off laws c files rounds p l;
  got_o = Holds-kept before new n.got_o _ last.goes_on (subst (Holds before n.got_o) (is Originator) holds.0) (last.names n.got_o tt);
  got_a = Holds-kept before new n.got_a _ last.goes_on (subst (Holds before n.got_a) (is Answerer) holds.1.0) (last.names n.got_a tt);
  trace = Holds-kept before new n.trace left.trace last.goes_on holds.1.1.0 (last.names n.trace tt);
  few = few-of laws.runs.soon c files rounds p h l;
  cause = cause-in laws c files rounds p h l;
}
  where
    is : (role : Role)
        → of role left.got ≡ taken_octets (agreed_srej (link_of c.script files)) (delay_of c.script) role (heard_in c files rounds p l)
    is role = same role ∙ passed laws c files rounds p h l role

-- what its users were given is what is left of it
left-same : (p : Progress) (text : List ℕ) (left : Left) → LeavesOf p text left → (role : Role)
    → of role left.got ≡ of role (left_by p).got
left-same p text left k role = grind (arith)

first-same : (script : ScriptValue) (files others : Both (List ℕ)) (end : PairEnd) (left leaves : Left)
    → (r : PairRunsTo script files others end left leaves) → (role : Role)
    → of role left.got ≡ of role (left_by (came_of script files others end left leaves r).p).got
first-same script files others end left leaves r role = grind (arith, left-same)

second-same : (script : ScriptValue) (files others : Both (List ℕ)) (end : PairEnd) (left leaves : Left)
    → (r : PairRunsTo script files others end left leaves) → (role : Role)
    → of role leaves.got ≡ of role (left_by (came_of script files others end left leaves r).q).got
second-same script files others end left leaves r role = grind (arith, left-same)

-- of told octets each link runs as it does alone where the noise is faint
pub isolated-of : FaintPairsAreIsolated → BreaksAreOctets → (old before : FolderState) (n : Names) (end : PairEnd)
    → (e : RanTo LIMITS old before n end) → AreTold old (inputs_of n) → IsFaint e.script
    → AreIsolated e.script e.ended.files e.ended.others end e.ended.left e.ended.leaves
isolated-of isolated breaks old before n end e told faint =
    let sent = breaks (octets_at old n.script) e.script (e.takes.opens.reads.spelled told.1.1.1.1.0) in
    isolated e.script e.ended.files e.ended.others end e.ended.left e.ended.leaves e.takes.limits faint
    (record { files_are = first; breaks_are = sent }) (record { files_are = second; breaks_are = sent }) e.ended.runs
  where
    first : (role : Role) → AreOctets (of role e.ended.files)
    first Originator = subst AreOctets (sym (e.takes.first.orig told.0)) (e.takes.opens.octets.0 told.0)
    first Answerer = subst AreOctets (sym (e.takes.first.answ told.1.0)) (e.takes.opens.octets.1.0 told.1.0)

    second : (role : Role) → AreOctets (of role e.ended.others)
    second Originator = subst AreOctets (sym (e.takes.second.orig told.1.1.0)) (e.takes.opens.octets.1.1.0 told.1.1.0)
    second Answerer = subst AreOctets (sym (e.takes.second.answ told.1.1.1.0)) (e.takes.opens.octets.1.1.1.0 told.1.1.1.0)

-- a pair that ended by itself
ran-of : HeadLaws → (old before new : FolderState) (n : Names) (end : PairEnd) → OnlyOutputs before new [] → RanTo LIMITS old before n end
    → Ran old new n end
ran-of laws old before new n end last e =
    let script = e.script in
    let k = e.ended in
    let came : Came script k.files k.others = came_of script k.files k.others end k.left k.leaves k.runs in record {
      script = script;
      limits = e.takes.limits;
      script_is = e.takes.opens.reads.spelled;
      files = k.files;
      others = k.others;
      first_are = e.takes.first;
      second_are = e.takes.second;
      left = k.left;
      leaves = k.leaves;
      runs = k.runs;
      came = came;
      came_is = refl;
      first = link-ran laws (first_wire script
          (turns_in came.q)) k.files before new n.first came.firsts came.p k.left e.takes.limits last
          came.at.first (first-same script k.files k.others end k.left k.leaves k.runs) k.first_holds;
      second = link-ran laws (second_wire script
          (turns_in came.p)) k.others before new n.second came.seconds came.q k.leaves e.takes.limits
          last came.at.second (second-same script k.files k.others end k.left k.leaves k.runs) k.second_holds;
      alone = isolated-of laws.isolated laws.breaks old before n end e;
    }

-- ---- by the answer

-- answers by which a pair itself ends before both links are done, and those of a run alone
abbrev is_pair_end : Status → Bool
is_pair_end (status.LineLost role symbol) = true
is_pair_end (status.ChanceMatch role turn) = true
is_pair_end (status.PairLinkLost link role segment turn) = true
is_pair_end (status.PairNotDetected link turn) = true
is_pair_end (status.LinkLost role segment turn) = true
is_pair_end (status.NotDetected turn) = true
is_pair_end answer = false

-- the answer is that of the pair's end
pub own-ends : (words : List (List ℕ)) (old new : FolderState) (n : Names) (s t : Status) (a : Answers (pair_job n) words old new s)
    → is_pair_end t ≡ true → s ≡ t → EndsBy LIMITS old a.before n (stops.Own t)
own-ends words old new n s t a e f =
    let is = stopped-so is_pair_end (record { done = refl; read = refl; write = refl; memory = refl })
    (λ (turns : LastTurns). both_done_line turns.first turns.second) words a.before new a.end s t a.says f e in
    subst (ends.Ends LIMITS old a.before n) is a.ends.0

pub not-refused : {P : Type 0} → (old before : FolderState) (n : Names) (answer : Status)
    → (RefusesOwn LIMITS old n.script 5 (files_of n) 1 answer → ⊥)
    → (KeepsAll old before × RefusesOwn LIMITS old n.script 5 (files_of n) 1 answer) ⊎ P → P
not-refused old before n answer never given = grind (arith)

by-end : (old new : FolderState) (n : Names) (end : PairEnd) (stop : Stop) → Err stop ≡ result_of end → Ran old new n end
    → RanBy old new n (answer_of end)
by-end old new n end stop e r = grind (arith)

by-answer : HeadLaws → (words : List (List ℕ)) (old new : FolderState) (n : Names) (s t : Status) (a : Answers (pair_job n) words old new s)
    → OnlyOutputs a.before new [] → (RefusesOwn LIMITS old n.script 5 (files_of n) 1 t → ⊥) → is_pair_end t ≡ true → s ≡ t
    → RanBy old new n t
by-answer laws words old new n s t a last never is said =
    let e = not-refused old a.before n t never (own-ends words old new n s t a is said) in
    subst (RanBy old new n) (sym (own-answer t e.end (Err (stops.Own t)) refl e.result_is))
    (by-end old new n e.end (stops.Own t) e.result_is (ran-of laws old a.before new n e.end last e.ran))

ran-by : HeadLaws → (words : List (List ℕ)) (old new : FolderState) (n : Names) (s t : Status) (a : Answers (pair_job n) words old new s)
    → OnlyOutputs a.before new [] → s ≡ t → RanBy old new n t
ran-by laws words old new n s status.Done a last e = let d = done-of (pair_job n) words old new s a e in (
  d.done.first,
  d.done.second,
  d.said ∙ ap (option_map (λ x. x ++ both_done_line d.done.first d.done.second)) d.ends.1,
  ran-of laws old a.before new n (BothDone d.done.first d.done.second) last d.ends.0,
)
ran-by laws words old new n s (status.PairLinkLost link role segment turn) a last e =
    by-answer laws words old new n s _ a last (λ x. x) refl e
ran-by laws words old new n s (status.PairNotDetected link turn) a last e = by-answer laws words old new n s _ a last (λ x. x) refl e
ran-by laws words old new n s (status.LineLost role symbol) a last e = by-answer laws words old new n s _ a last (λ x. x) refl e
ran-by laws words old new n s (status.ChanceMatch role turn) a last e = by-answer laws words old new n s _ a last (λ x. x) refl e
ran-by laws words old new n s (status.LinkLost role segment turn) a last e = grind (arith, by-answer)
ran-by laws words old new n s (status.NotDetected turn) a last e = grind (arith, by-answer)
ran-by laws words old new n s t a last e = tt

-- ---- both links are done

record FourWhole (old new : FolderState) (n : Names) : Type 0 where
  first_o : HoldsWhole old new n.first.got_o n.first.answ
  first_a : HoldsWhole old new n.first.got_a n.first.orig
  second_o : HoldsWhole old new n.second.got_o n.second.answ
  second_a : HoldsWhole old new n.second.got_a n.second.orig

whole-of : HeadLaws → (old before new : FolderState) (n : Names) (first second : ℕ) → GoesOn old before → KeepsAll before new
    → RanTo LIMITS old before n (BothDone first second) → FourWhole old new n
whole-of laws old before new n first second g kept e =
    let k = e.ended in
    let w = laws.whole e.script k.files k.others first second k.left k.leaves e.takes.limits k.runs in record {
      first_o = λ ts tg. kept n.first.got_o (told_later g n.first.got_o tg) ∙ k.first_holds.0 (told_later g n.first.got_o tg)
          ∙ ap Some (w.0 Originator ∙ e.takes.first.answ ts);
      first_a = λ ts tg. kept n.first.got_a (told_later g n.first.got_a tg) ∙ k.first_holds.1.0 (told_later g n.first.got_a tg)
          ∙ ap Some (w.0 Answerer ∙ e.takes.first.orig ts);
      second_o = λ ts tg. kept n.second.got_o (told_later g n.second.got_o tg) ∙ k.second_holds.0 (told_later g n.second.got_o tg)
          ∙ ap Some (w.1 Originator ∙ e.takes.second.answ ts);
      second_a = λ ts tg. kept n.second.got_a (told_later g n.second.got_a tg) ∙ k.second_holds.1.0 (told_later g n.second.got_a tg)
          ∙ ap Some (w.1 Answerer ∙ e.takes.second.orig ts);
    }

-- the headline holds of every answer
pub headline-of : HeadLaws → (words : List (List ℕ)) (old new : FolderState) (n : Names) (s : Status)
    → Answers (pair_job n) words old new s → Headline old new n s
headline-of laws words old new n s a = record {
  shared = shared-of (pair_job n) words old new s a (λ e. e.0.0);
  first_got_o = prefix-later old a.before new n.first.got_o n.first.answ a.only.goes_on (kept n.first.got_o) both.first.got_o;
  first_got_a = prefix-later old a.before new n.first.got_a n.first.orig a.only.goes_on (kept n.first.got_a) both.first.got_a;
  second_got_o = prefix-later old a.before new n.second.got_o n.second.answ a.only.goes_on (kept n.second.got_o) both.second.got_o;
  second_got_a = prefix-later old a.before new n.second.got_a n.second.orig a.only.goes_on (kept n.second.got_a) both.second.got_a;
  first_whole_o = λ e. (whole e).first_o;
  first_whole_a = λ e. (whole e).first_a;
  second_whole_o = λ e. (whole e).second_o;
  second_whole_a = λ e. (whole e).second_a;
  ran = ran-by laws words old new n s s a last refl;
}
  where
    last : OnlyOutputs a.before new []
    last = last-only (λ (turns : LastTurns). both_done_line turns.first turns.second) words a.before new a.end s a.says

    kept : KeepsAll a.before new
    kept name = last.names name tt

    both : BothPrefix old a.before n
    both = both-of laws old a.before n a.end a.only.goes_on a.ends.0

    whole : s ≡ status.Done → FourWhole old new n
    whole e =
        let d = done-of (pair_job n) words old new s a e in
        whole-of laws old a.before new n d.done.first d.done.second a.only.goes_on kept d.ends.0
