-- What a pair leaves of a link is what a run of that link alone leaves.
use Rattle.command_laws.proofs.Names.{◌≡◌, ℕ, List, [], ◌∷◌, refl, sym, ◌∙◌, subst, Status, ScriptRunsTo, DisplacesNoneIsFaint, RunEnd}
use Rattle.command_laws.proofs.Names.{Left, OneResult, wire_of, link_of, BothDone, AreIsolated, ScriptSpelling, ScriptsAreOne}
use Rattle.command_laws.proofs.Names.{BreaksAreOctets, ScriptValue, FolderState, octets_at, EndsRun, RunNames, Both}
use Rattle.outside_calls.specs.Outputs.{HoldEach, KeepsEach, OnlyOutputs}
use Rattle.outside_calls.proofs.Putting.{HoldEach-kept}
use Rattle.line_run.specs.Ends as runs
use Rattle.command_base.specs.declared.status.Status.TheVariants as status
use Rattle.command_base.specs.Job.{Answers}
use Rattle.command_base.specs.Lines.{done_line}
use Rattle.command_base.proofs.Jobs.{last-only, done-of}
use Rattle.run_inputs.specs.declared.limits.TheConstants.{LIMITS}
use Rattle.run_inputs.specs.Words as alone
use Rattle.line_run.specs.Names.{Written}
use Rattle.line_run.specs.Names as written
use Rattle.line_world.specs.Turns.{held_of}
use Rattle.run_commands.specs.Running.Ends.{run_job}
use Rattle.run_commands.specs.Running.Ends as run_ends
use Rattle.run_commands.proofs.Running.Headline as run_answers
use Rattle.link_pair.specs.Pairs.Ends.{Which, First, Second, PairEnd}
use Rattle.link_pair.specs.Pairs.Laws.{FaintPairsAreIsolated}
use Rattle.link_pair.specs.Words.{Names, inputs_of, run_of}
use Rattle.link_pair.specs.Ends.{RanTo, pair_job}
use Rattle.link_pair.specs.Answers.{EndsPair}
use Rattle.link_pair.specs.Headline.{AreTold}
use Rattle.command_laws.specs.Isolates.{HoldSame, AreLeftAlike, FaintLinksAreAlone, UndisplacedLinksAreAlone}
use Rattle.link_pair.proofs.Headline.{isolated-of, own-ends, not-refused}

pub record AloneLaws : Type 0 where
  pub isolated : FaintPairsAreIsolated
  pub result : OneResult
  pub one : ScriptsAreOne
  pub breaks : BreaksAreOctets

-- ---- both ended by themselves

pair-by : (words : List (List ℕ)) (old new : FolderState) (n : Names) (s t : Status) (a : Answers (pair_job n) words old new s) → s ≡ t
    → EndsPair t → (end : PairEnd) × RanTo LIMITS old a.before n end
pair-by words old new n s status.Done a e is =
    let d = done-of (pair_job n) words old new s a e in (BothDone d.done.first d.done.second, d.ends.0)
pair-by words old new n s (status.LineLost role symbol) a e is =
    let r = not-refused old a.before n (status.LineLost role symbol) (λ x. x) (own-ends words old new n s _ a refl e) in (r.end, r.ran)
pair-by words old new n s (status.ChanceMatch role turn) a e is =
    let r = not-refused old a.before n (status.ChanceMatch role turn) (λ x. x) (own-ends words old new n s _ a refl e) in (r.end, r.ran)
pair-by words old new n s (status.PairLinkLost link role segment turn) a e is =
    let r = not-refused old a.before n (status.PairLinkLost link role segment turn) (λ x. x) (own-ends words old new n s _ a refl e) in
    (r.end, r.ran)
pair-by words old new n s (status.PairNotDetected link turn) a e is =
    let r = not-refused old a.before n (status.PairNotDetected link turn) (λ x. x) (own-ends words old new n s _ a refl e) in (r.end, r.ran)
pair-by words old new n s t a e is = absurd is

run-by : (words : List (List ℕ)) (old new : FolderState) (n : RunNames) (s t : Status) (a : Answers (run_job n) words old new s) → s ≡ t
    → EndsRun t → (end : RunEnd) × run_ends.RanTo LIMITS old a.before n end
run-by words old new n s status.Done a e is = let d = done-of (run_job n) words old new s a e in (runs.IsDone d.done, d.ends.0)
run-by words old new n s (status.LinkLost role segment turn) a e is = (
  runs.LinkLost role segment turn,
  run_answers.not-refused old a.before n (status.LinkLost role segment turn) (λ x. x) (run_answers.own-ends words old new n s _ a refl e),
)
run-by words old new n s (status.NotDetected turn) a e is = (
  runs.NotDetected turn,
  run_answers.not-refused old a.before n (status.NotDetected turn) (λ x. x) (run_answers.own-ends words old new n s _ a refl e),
)
run-by words old new n s (status.LineLost role symbol) a e is = (
  runs.LineLost role symbol,
  run_answers.not-refused old a.before n (status.LineLost role symbol) (λ x. x) (run_answers.own-ends words old new n s _ a refl e),
)
run-by words old new n s (status.ChanceMatch role turn) a e is = (
  runs.ChanceMatch role turn,
  run_answers.not-refused old a.before n (status.ChanceMatch role turn) (λ x. x) (run_answers.own-ends words old new n s _ a refl e),
)
run-by words old new n s t a e is = absurd is

-- ---- one link

kept : (a b : FolderState) (names : List (List ℕ)) → OnlyOutputs a b [] → KeepsEach a b names
kept a b [] last = tt
kept a b (name ∷ names) last = (last.names name tt, kept a b names last)

alike : (f g : FolderState) (names held : List (List ℕ)) → HoldEach f names held → HoldEach g names held → AreLeftAlike f g names
alike f g [] [] h k = tt
alike f g [] (octets ∷ held) h k = absurd h
alike f g (name ∷ names) [] h k = absurd h
alike f g (name ∷ names) (octets ∷ held) h k = (λ t u. h.0 t ∙ sym (k.0 u), alike f g names held h.1 k.1)

-- the link of a pair, as its run alone
pub record OfPair (script : ScriptValue) (files : Both (List ℕ)) (f : FolderState) (w : Written) : Type 0 where
  pub end : RunEnd
  pub left : Left
  pub runs : ScriptRunsTo script files end left
  pub holds : HoldEach f (written.outputs_of w) (held_of left)

same-run : AloneLaws → (was before then : FolderState) (w : Written) (m : RunNames) (text : List ℕ) (script : ScriptValue) (files : Both
    (List ℕ)) (new : FolderState) (end : RunEnd)
    → OfPair script files new w → (r : run_ends.RanTo LIMITS was before m end) → ScriptSpelling text script → ScriptSpelling text r.script
    → files ≡ r.files → OnlyOutputs before then []
    → alone.texts_of m ≡ written.outputs_of w → AreLeftAlike new then (written.outputs_of w)
same-run laws was before then w m text script files new end o r spelled spelt same last names =
    let scripts : script ≡ r.script = laws.one text script r.script spelled spelt in
    let run : ScriptRunsTo script files end r.left =
    subst (λ (s : ScriptValue). ScriptRunsTo s files end r.left) (sym scripts)
    (subst (λ (f : Both (List ℕ)). ScriptRunsTo r.script f end r.left) (sym same) r.run) in
    let one = laws.result (wire_of script) (link_of script files) o.end end o.left r.left o.runs run in
    let holds : HoldEach then (written.outputs_of w) (held_of o.left) =
    subst (λ (l : Left). HoldEach then (written.outputs_of w) (held_of l)) (sym one.1)
    (subst (λ (ns : List (List ℕ)). HoldEach then ns (held_of r.left)) names
    (HoldEach-kept before then (alone.texts_of m) (held_of r.left) last.goes_on r.holds (kept before then (alone.texts_of m) last))) in
    alike new then (written.outputs_of w) (held_of o.left) o.holds holds

-- ---- both

pub links-are-alone : AloneLaws → FaintLinksAreAlone
links-are-alone laws words others old new was then n link s r b faint = by link b.run b.told_alone b.same
  where
    a : (end : PairEnd) × RanTo LIMITS old b.pair.before n end
    a = pair-by words old new n s s b.pair refl b.pair_ends

    e : RanTo LIMITS old b.pair.before n a.0
    e = a.1

    told : AreTold old (inputs_of n)
    told = b.told

    spelled : ScriptSpelling (octets_at old n.script) e.script
    spelled = e.takes.opens.reads.spelled told.1.1.1.1.0

    i : AreIsolated e.script e.ended.files e.ended.others a.0 e.ended.left e.ended.leaves
    i = isolated-of laws.isolated laws.breaks old b.pair.before n a.0 e told (faint e.script spelled)

    last : OnlyOutputs b.pair.before new []
    last = last-only _ words b.pair.before new b.pair.end s b.pair.says

    by : (link : Which) → Answers (run_job (run_of link n)) others was then r → AreTold was (alone.inputs_of (run_of link n))
        → HoldSame old was (alone.inputs_of (run_of link n)) → AreLeftAlike new then (alone.texts_of (run_of link n))
    by First run told_alone same =
        let c = run-by others was then (run_of First n) r r run refl b.run_ends in
        let f = c.1 in
        same-run laws was run.before then n.first (run_of First n) (octets_at old n.script) e.script e.ended.files new c.0 (record {
          end = i.first;
          left = e.ended.left;
          runs = i.first_runs;
          holds = HoldEach-kept b.pair.before new (written.outputs_of n.first) (held_of e.ended.left) last.goes_on e.ended.first_holds
              (kept b.pair.before new (written.outputs_of n.first) last);
        }) f spelled (subst (λ (t : List ℕ). ScriptSpelling t f.script) (sym same.1.1.0) (f.takes.opens.reads.spelled told_alone.1.1.0))
        (λ k. record {
          orig = (e.takes.first.orig told.0 ∙ same.0 ∙ sym (f.takes.orig told_alone.0)) k;
          answ = (e.takes.first.answ told.1.0 ∙ same.1.0 ∙ sym (f.takes.answ told_alone.1.0)) k;
        }) (last-only done_line others run.before then run.end r run.says) refl
    by Second run told_alone same =
        let c = run-by others was then (run_of Second n) r r run refl b.run_ends in
        let f = c.1 in
        same-run laws was run.before then n.second (run_of Second n) (octets_at old n.script) e.script e.ended.others new c.0 (record {
          end = i.second;
          left = e.ended.leaves;
          runs = i.second_runs;
          holds = HoldEach-kept b.pair.before new (written.outputs_of n.second) (held_of e.ended.leaves) last.goes_on e.ended.second_holds
              (kept b.pair.before new (written.outputs_of n.second) last);
        }) f spelled (subst (λ (t : List ℕ). ScriptSpelling t f.script) (sym same.1.1.0) (f.takes.opens.reads.spelled told_alone.1.1.0))
        (λ k. record {
          orig = (e.takes.second.orig told.1.1.0 ∙ same.0 ∙ sym (f.takes.orig told_alone.0)) k;
          answ = (e.takes.second.answ told.1.1.1.0 ∙ same.1.0 ∙ sym (f.takes.answ told_alone.1.0)) k;
        }) (last-only done_line others run.before then run.end r run.says) refl

pub undisplaced-links-are-alone : DisplacesNoneIsFaint → FaintLinksAreAlone → UndisplacedLinksAreAlone
undisplaced-links-are-alone faint law words others old new was then n link s r b none =
    law words others old new was then n link s r b (λ script spelled. faint script (none script spelled))
