-- Where the inputs are right and the line carries both links to their ends, they are done, but for want of memory.
use Rattle.link_pair.proofs.Names.{◌≡◌, ◌⊎◌, inl, inr, ℕ, ◌+◌, ◌≤◌, ◌<◌, IsTrue, List, [], ◌∷◌, length, refl, sym, ◌∙◌, ap, subst, arith}
use Rattle.link_pair.proofs.Names.{Result, Err, last-only, Answers, both_done_line, Status, Stop, AreOctets, AreOfOctets}
use Rattle.link_pair.proofs.Names.{DisplacesNoneIsFaint, Left, Written, LineEnd, held_of, answer_of, result_of, AreFiles, RanTo, EndsBy}
use Rattle.link_pair.proofs.Names.{pair_job, first_wire, second_wire, PairEnd, BothDone, line_end, PairRunsTo, by_links, by_line}
use Rattle.link_pair.proofs.Names.{OnePairResult, FaintPairsAreIsolated, EndsDone, UnstarvedPairsAreDone, QuietPairsAreDone, Names}
use Rattle.link_pair.proofs.Names.{files_of, LastTurns, BreaksAreOctets, ScriptValue, IsInLimits, HoldEach-kept, FolderState, octets_at}
use Rattle.link_pair.proofs.Names.{HoldEach, OnlyOutputs, KeepsEach, RefusesOwn, LIMITS, Both, of, Role}
use Rattle.noise_script.specs.Laws.{ScriptsAreOne, NoFaultInScripts, SpelledIsInLimits}
use Rattle.line_ends.specs.Causes.{FewLossesKeepLinks}
use Rattle.line_ends.specs.Completes.{IsQuiet, CompletesWithFewNamed, NamesFew, IsUndisturbed}
use Rattle.command_base.specs.declared.status.Status.TheVariants.{BadScript, TooLong, NoMemory}
use Rattle.command_base.specs.declared.stop.Stop.TheVariants.{Own}
use Rattle.command_base.proofs.Jobs.{Comes, is_done, is_own, is_memory, comes-to, done-unless-memory}
use Rattle.run_inputs.specs.Lengths.{IsFirstLong}
use Rattle.line_run.specs.Names as written
use Rattle.link_pair.specs.Pairs.Ends.{IsByLine}
use Rattle.link_pair.specs.Ends as ends
use Rattle.link_pair.specs.Completes.{IsCarried, LosesFew, AreRight, files_at, DoneWhere, Answered, AnsweredByItsEnd, Completes}
use Rattle.link_pair.proofs.Refusing.{own-answer}
use Rattle.link_pair.proofs.Pairs.Completing.{both-so}

-- the laws that a pair's end rests on
pub record DoneLaws : Type 0 where
  pub result : OnePairResult
  pub one : ScriptsAreOne
  pub apart : NoFaultInScripts
  pub limits : SpelledIsInLimits
  pub breaks : BreaksAreOctets
  pub unstarved : UnstarvedPairsAreDone
  pub quiet : QuietPairsAreDone
  pub isolated : FaintPairsAreIsolated
  pub few : FewLossesKeepLinks
  pub few_named : CompletesWithFewNamed
  pub faint : DisplacesNoneIsFaint

-- ---- right inputs are not refused

script-fits : (count : ℕ) → count ≤ 65536 → LIMITS.script < count → ⊥
script-fits count within longer = omega (arith, within, longer)

file-fits : (count : ℕ) → count ≤ 16777216 → LIMITS.file < count → ⊥
file-fits count within longer = omega (arith, within, longer)

abbrev AllShort : FolderState → List (List ℕ) → Type 0
AllShort f [] = Unit {0}
AllShort f (name ∷ names) = (IsTrue (f.tells name) × (length (octets_at f name) ≤ 16777216)) × AllShort f names

never-long : (f : FolderState) (place : ℕ) (names : List (List ℕ)) (word : ℕ) → AllShort f names
    → IsFirstLong LIMITS.file f place names word
    → ⊥
never-long f place [] word short h = h
never-long f place (name ∷ names) word short (inl h) = file-fits (length (octets_at f name)) short.0.1 (h.1 short.0.0)
never-long f place (name ∷ names) word short (inr h) = never-long f (place + 1) names word short.1 h.1

all-short : (old : FolderState) (n : Names) (script : ScriptValue) → AreRight old n script → AllShort old (files_of n)
all-short old n script r = grind (arith)

never-refused : NoFaultInScripts → (old : FolderState) (n : Names) (script : ScriptValue) (answer : Status) → AreRight old n script
    → RefusesOwn LIMITS old n.script 5 (files_of n) 1 answer → ⊥
unfolding all-short
never-refused law old n script (TooLong word) r (inl s) =
    script-fits (length (octets_at old n.script)) r.script_short (s.longer r.script_told)
never-refused law old n script (TooLong word) r (inr f) = never-long old 1 (files_of n) word (all-short old n script r) f.first
never-refused law old n script (BadScript line cause) r s = law (octets_at old n.script) script line cause r.spelled (s.first r.script_told)
never-refused law old n script answer r never = never

-- ---- the pair that was made is that of the inputs

pub files-told : (f : FolderState) (n : Written) (files : Both (List ℕ)) → AreFiles f n files → IsTrue (f.tells n.orig)
    → IsTrue (f.tells n.answ)
    → files ≡ files_at f n
files-told f n files are o a = λ k. record { orig = are.orig o k; answ = are.answ a k }

inputs-pair : ScriptsAreOne → (old before : FolderState) (n : Names) (script : ScriptValue) (found : PairEnd) → AreRight old n script
    → (e : RanTo LIMITS old before n found)
    → PairRunsTo script (files_at old n.first) (files_at old n.second) found e.ended.left e.ended.leaves
inputs-pair law old before n script found r e =
    let same : script ≡ e.script = law (octets_at old n.script) script e.script r.spelled (e.takes.opens.reads.spelled r.script_told) in
    let first : e.ended.files ≡ files_at old n.first =
    files-told old n.first e.ended.files e.takes.first r.first.orig_told r.first.answ_told in
    let second : e.ended.others ≡ files_at old n.second =
    files-told old n.second e.ended.others e.takes.second r.second.orig_told r.second.answ_told in
    subst (λ (s : ScriptValue). PairRunsTo s (files_at old n.first) (files_at old n.second) found e.ended.left e.ended.leaves) (sym same)
    (subst (λ (o : Both (List ℕ)). PairRunsTo e.script (files_at old n.first) o found e.ended.left e.ended.leaves) second
    (subst (λ (o : Both (List ℕ)). PairRunsTo e.script o e.ended.others found e.ended.left e.ended.leaves) first e.ended.runs))

-- the files that were opened are octets
first-octets : DoneLaws → (old before : FolderState) (n : Names) (script : ScriptValue) (found : PairEnd) → AreRight old n script
    → RanTo LIMITS old before n found → AreOfOctets script (files_at old n.first)
first-octets laws old before n script found r e =
    record { files_are = each; breaks_are = laws.breaks (octets_at old n.script) script r.spelled }
  where
    each : (role : Role) → AreOctets (of role (files_at old n.first))
    each role = grind (arith)

second-octets : DoneLaws → (old before : FolderState) (n : Names) (script : ScriptValue) (found : PairEnd) → AreRight old n script
    → RanTo LIMITS old before n found → AreOfOctets script (files_at old n.second)
second-octets laws old before n script found r e =
    record { files_are = each; breaks_are = laws.breaks (octets_at old n.script) script r.spelled }
  where
    each : (role : Role) → AreOctets (of role (files_at old n.second))
    each role = grind (arith)

-- ---- where each pair of the script and the files is done, the answer is done

abbrev AllDone : ScriptValue → Both (List ℕ) → Both (List ℕ) → Type 0
AllDone script files others = (end : PairEnd) (left leaves : Left) → PairRunsTo script files others end left leaves → EndsDone end

done-is-no-stop : (end : PairEnd) (stop : Stop) → EndsDone end → Err stop ≡ result_of end → ⊥
done-is-no-stop end stop d e = cc (e ∙ ap result_of d.2)

never-own : DoneLaws → (old before : FolderState) (n : Names) (script : ScriptValue) (answer : Status) → AreRight old n script
    → (AreOfOctets script (files_at old n.first) → AreOfOctets script (files_at old n.second)
    → AllDone script (files_at old n.first) (files_at old n.second)) → EndsBy LIMITS old before n (Own answer) → ⊥
never-own laws old before n script answer r all (inl refused) = never-refused laws.apart old n script answer r refused.1
never-own laws old before n script answer r all (inr e) =
    done-is-no-stop e.end (Own answer)
    (all (first-octets laws old before n script e.end r e.ran) (second-octets laws old before n script e.end r e.ran) e.end e.ran.ended.left
    e.ran.ended.leaves (inputs-pair laws.one old before n script e.end r e.ran)) e.result_is

all-done : DoneLaws → (words : List (List ℕ)) (old new : FolderState) (n : Names) (s : Status) → Answers (pair_job n) words old new s
    → DoneWhere old new n s (λ script files others. AreOfOctets script files → AreOfOctets script others → AllDone script files others)
all-done laws words old new n s a sound script r all =
    done-unless-memory (pair_job n) words old new s a sound (λ answer ends. never-own laws old a.before n script answer r all ends.0)

-- ---- which pairs are done

line-is : (round : ℕ) (cause : LineEnd) → IsByLine (line_end round cause)
line-is round cause = grind (arith)

carried-done : DoneLaws → (script : ScriptValue) (files others : Both (List ℕ)) → IsInLimits script → IsCarried script files others
    → AllDone script files others
carried-done laws script files others h c end left leaves (by_links first second e is) =
    subst EndsDone (sym is)
    (laws.unstarved script files others first second left leaves h e (c.first first second left leaves e)
    (c.second first second left leaves e))
carried-done laws script files others h c end left leaves (by_line link round cause e is) =
    absurd (c.stays end left leaves (by_line link round cause e is) (subst IsByLine (sym is) (line-is round cause)))

few-done : DoneLaws → (script : ScriptValue) (files others : Both (List ℕ)) → IsInLimits script → LosesFew script files others
    → AllDone script files others
few-done laws script files others h f end left leaves (by_links first second e is) =
    subst EndsDone (sym is)
    (laws.unstarved script files others first second left leaves h e
    (λ g starved. laws.few (first_wire script e.us) files first left h e.at.first.ran (f.first first second left leaves e) g)
    (λ g starved. laws.few (second_wire script e.ts) others second leaves h e.at.second.ran (f.second first second left leaves e) g))
few-done laws script files others h f end left leaves (by_line link round cause e is) =
    absurd (f.stays end left leaves (by_line link round cause e is) (subst IsByLine (sym is) (line-is round cause)))

named-done : DoneLaws → (script : ScriptValue) (files others : Both (List ℕ)) → IsInLimits script → NamesFew script
    → AreOfOctets script files → AreOfOctets script others → AllDone script files others
named-done laws script files others h f o oo end left leaves r =
    let i = laws.isolated script files others end left leaves h f.faint o oo r in
    subst EndsDone (sym i.end_is)
    (both-so i.first i.second (laws.few_named script files i.first left h f.faint o f.few i.first_runs)
    (laws.few_named script others i.second leaves h f.faint oo f.few i.second_runs))

undisturbed-quiet : DoneLaws → (script : ScriptValue) → IsUndisturbed script → IsQuiet script
undisturbed-quiet laws script u = grind (arith)

-- ---- over a sound folder the answer is that of the one pair that there is

answered : DoneLaws → (old before new : FolderState) (n : Names) (s : Status) (script : ScriptValue) (found end : PairEnd)
    (left leaves : Left)
    → OnlyOutputs before new [] → AreRight old n script → RanTo LIMITS old before n found
    → PairRunsTo script (files_at old n.first) (files_at old n.second) end left leaves → s ≡ answer_of found
    → Answered new n end left leaves s
answered laws old before new n s script found end left leaves last r e run is =
    let one = laws.result script (files_at old n.first) (files_at old n.second) found end e.ended.left left e.ended.leaves leaves
    (laws.limits (octets_at old n.script) script r.spelled) (inputs-pair laws.one old before n script found r e) run in
    record {
      answer = is ∙ ap answer_of one.0;
      first = subst (λ (l : Left). HoldEach new (written.outputs_of n.first) (held_of l)) one.1
          (HoldEach-kept before new (written.outputs_of n.first) (held_of e.ended.left) last.goes_on e.ended.first_holds
          (kept (written.outputs_of n.first)));
      second = subst (λ (l : Left). HoldEach new (written.outputs_of n.second) (held_of l)) one.2
          (HoldEach-kept before new (written.outputs_of n.second) (held_of e.ended.leaves) last.goes_on e.ended.second_holds
          (kept (written.outputs_of n.second)));
    }
  where
    kept : (names : List (List ℕ)) → KeepsEach before new names
    kept [] = tt
    kept (name ∷ names) = (last.names name tt, kept names)

exact-of : DoneLaws → (words : List (List ℕ)) (old new : FolderState) (n : Names) (s : Status) → Answers (pair_job n) words old new s
    → AnsweredByItsEnd old new n s
exact-of laws words old new n s a sound script r end left leaves run = by (comes-to (pair_job n) words old new s a sound)
  where
    last : OnlyOutputs a.before new []
    last = last-only (λ (turns : LastTurns). both_done_line turns.first turns.second) words a.before new a.end s a.says

    own : (answer : Status) → s ≡ answer → EndsBy LIMITS old a.before n (Own answer) → Answered new n end left leaves s ⊎ (s ≡ NoMemory)
    own answer e (inl refused) = absurd (never-refused laws.apart old n script answer r refused.1)
    own answer e (inr ran) =
        inl (answered laws old a.before new n s script ran.end end left leaves last r ran.ran run
        (e ∙ own-answer answer ran.end (Err (Own answer)) refl ran.result_is))

    by : Comes a.end s → Answered new n end left leaves s ⊎ (s ≡ NoMemory)
    by (is_done turns is e) =
        inl (answered laws old a.before new n s script (BothDone turns.first turns.second) end left leaves last r
        (subst (λ (x : Result LastTurns Stop). ends.Ends LIMITS old a.before n x) is a.ends.0) run e)
    by (is_own answer is e) = own answer e (subst (λ (x : Result LastTurns Stop). ends.Ends LIMITS old a.before n x) is a.ends.0)
    by (is_memory e) = inr e

pub completes-of : DoneLaws → (words : List (List ℕ)) (old new : FolderState) (n : Names) (s : Status)
    → Answers (pair_job n) words old new s → Completes old new n s
completes-of laws words old new n s a =
    let done = all-done laws words old new n s a in
    let within = λ (script : ScriptValue) (r : AreRight old n script). laws.limits (octets_at old n.script) script r.spelled in
    let first = files_at old n.first in
    let second = files_at old n.second in
    record {
      exact = exact-of laws words old new n s a;
      carried = λ sound script r c. done sound script r (λ o oo. carried-done laws script first second (within script r) c);
      few_losses = λ sound script r f. done sound script r (λ o oo. few-done laws script first second (within script r) f);
      few_named = λ sound script r f. done sound script r (named-done laws script first second (within script r) f);
      quiet = λ sound script r q.
          done sound script r (λ o oo end left leaves. laws.quiet script first second end left leaves (within script r) q o oo);
      undisturbed = λ sound script r u.
          done sound script r
          (λ o oo end left leaves. laws.quiet script first second end left leaves (within script r) (undisturbed-quiet laws script u) o oo);
    }
