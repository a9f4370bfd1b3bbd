-- Where the inputs are right and the line carries their run to its end, the run is done, but for want of memory.
use Rattle.run_commands.proofs.Names.{◌≡◌, ◌⊎◌, inl, inr, ℕ, ◌≤◌, ◌<◌, List, [], ◌∷◌, sym, ◌∙◌, ap, subst, arith, Result, Comes, is_done}
use Rattle.run_commands.proofs.Names.{is_own, is_memory, comes-to, last-only, done-unless-memory, Answers, done_line, Status, TooLong}
use Rattle.run_commands.proofs.Names.{NoMemory, Stop, Own, IsCarried, LostLinksWereStarved, ScriptRunsTo, RunEnd, Left, wire_of, link_of}
use Rattle.run_commands.proofs.Names.{held_of, ScriptSpelling, ScriptValue, HoldEach-kept, FolderState, octets_at, OnlyOutputs, KeepsEach}
use Rattle.run_commands.proofs.Names.{RanTo, RanBy, EndsBy, run_job, stopped-by, stopped-how, answer_of, RefusesOwn, RunNames, files_of}
use Rattle.run_commands.proofs.Names.{texts_of, LIMITS, Both, of, Role}
use Rattle.frame_check.specs.Octets.{AreOctets}
use Rattle.noise_script.specs.Laws.{ScriptsAreOne, NoFaultInScripts, SpelledIsInLimits, BreaksAreOctets}
use Rattle.line_run.specs.Ends.{OneResult, GivesUp, LineEnds}
use Rattle.line_run.specs.Ends as runs
use Rattle.line_ends.specs.Completes.{IsQuiet, EndsDone, AreOfOctets, NamesFew, IsUndisturbed, CompletesWithFewLosses}
use Rattle.line_ends.specs.Completes.{CompletesWithFewNamed, CompletesQuiet, CompletesUndisturbed}
use Rattle.command_base.specs.declared.status.Status.TheVariants.{BadScript}
use Rattle.outside_calls.specs.Outputs.{HoldEach}
use Rattle.run_commands.specs.Running.Ends.{Ends}
use Rattle.run_commands.specs.Running.Completes.{LosesFew, AreRight, files_at, DoneWhere, Answered, AnsweredByItsEnd, Completes}

script-fits : (count : ℕ) → count ≤ 65536 → LIMITS.script < count → ⊥
script-fits count within longer = omega (arith, within, longer)

file-fits : (count : ℕ) → count ≤ 16777216 → LIMITS.file < count → ⊥
file-fits count within longer = omega (arith, within, longer)

-- right inputs are not refused
never-refused : NoFaultInScripts → (old : FolderState) (n : RunNames) (script : ScriptValue) (answer : Status) → AreRight old n script
    → RefusesOwn LIMITS old n.script 3 (files_of n) 1 answer → ⊥
never-refused law old n script (TooLong word) r (inl s) = grind (arith, script-fits)
never-refused law old n script (TooLong word) r (inr f) = grind (arith, file-fits)
never-refused law old n script (BadScript line cause) r s = law (octets_at old n.script) script line cause r.spelled (s.first r.script_told)
never-refused law old n script answer r never = never

-- the laws that a run's end rests on
pub record DoneLaws : Type 0 where
  pub result : OneResult
  pub one : ScriptsAreOne
  pub apart : NoFaultInScripts
  pub limits : SpelledIsInLimits
  pub breaks : BreaksAreOctets
  pub starved : LostLinksWereStarved
  pub few_losses : CompletesWithFewLosses
  pub few_named : CompletesWithFewNamed
  pub quiet : CompletesQuiet
  pub undisturbed : CompletesUndisturbed

-- the run that was made is the one that is carried to its end
carried-so : ScriptsAreOne → (old before : FolderState) (n : RunNames) (script : ScriptValue) (end : RunEnd) → AreRight old n script
    → IsCarried script (files_at old n) → (e : RanTo LIMITS old before n end) → IsCarried e.script e.files
carried-so law old before n script end r c e =
    let same : script ≡ e.script = law (octets_at old n.script) script e.script r.spelled (e.takes.opens.reads.spelled r.script_told) in
    let at-orig : IsCarried script (record { orig = e.files.orig; answ = octets_at old n.names.answ }) =
    subst (λ (o : List ℕ). IsCarried script (record { orig = o; answ = octets_at old n.names.answ })) (sym (e.takes.orig r.orig_told)) c in
    let at-files : IsCarried script e.files =
    subst (λ (a : List ℕ). IsCarried script (record { orig = e.files.orig; answ = a })) (sym (e.takes.answ r.answ_told)) at-orig in
    subst (λ (s : ScriptValue). IsCarried s e.files) same at-files

-- the files that were opened are octets
abbrev AreOfOctetsAt : FolderState → RunNames → Type 0
AreOfOctetsAt old n = (role : Role) → AreOctets (of role (files_at old n))

octets-told : (old before : FolderState) (n : RunNames) (script : ScriptValue) (end : RunEnd) → AreRight old n script
    → RanTo LIMITS old before n end → AreOfOctetsAt old n
octets-told old before n script end r e b = grind (arith)

-- so no end gave up
never-up : ScriptsAreOne → LostLinksWereStarved → (old before : FolderState) (n : RunNames) (script : ScriptValue) (end : RunEnd)
    → AreRight old n script
    → (AreOfOctetsAt old n → IsCarried script (files_at old n)) → GivesUp end → RanTo LIMITS old before n end → ⊥
never-up one starved old before n script end r c g e =
    (carried-so one old before n script end r (c (octets-told old before n script end r e)) e).not_starved end e.left e.run g
    (starved (wire_of e.script) e.files end e.left e.takes.limits e.run g)

-- and the line didn't end it
never-line : ScriptsAreOne → (old before : FolderState) (n : RunNames) (script : ScriptValue) (end : RunEnd) → AreRight old n script
    → (AreOfOctetsAt old n → IsCarried script (files_at old n)) → LineEnds end → RanTo LIMITS old before n end → ⊥
never-line one old before n script end r c x e =
    (carried-so one old before n script end r (c (octets-told old before n script end r e)) e).stays end e.left e.run x

never-ran : ScriptsAreOne → LostLinksWereStarved → (old before : FolderState) (n : RunNames) (script : ScriptValue) (answer : Status)
    → AreRight old n script
    → (AreOfOctetsAt old n → IsCarried script (files_at old n)) → RanBy LIMITS old before n answer → ⊥
never-ran one starved old before n script answer r c e =
    stopped-how (RanTo LIMITS old before n) answer e (λ end g h. never-up one starved old before n script end r c g h)
    (λ end l h. never-line one old before n script end r c l h)

never-own : DoneLaws → (old before : FolderState) (n : RunNames) (script : ScriptValue) (answer : Status) → AreRight old n script
    → (AreOfOctetsAt old n → IsCarried script (files_at old n)) → EndsBy LIMITS old before n (Own answer) → ⊥
never-own laws old before n script answer r c (inl refused) = never-refused laws.apart old n script answer r refused.1
never-own laws old before n script answer r c (inr e) = never-ran laws.one laws.starved old before n script answer r c e

-- a run that is done is one that no end gave up and that the line didn't end
done-stays : (end : RunEnd) → EndsDone end → LineEnds end → ⊥
done-stays end d x = subst LineEnds d.1 x

done-kept : (end : RunEnd) → EndsDone end → GivesUp end → ⊥
done-kept end d g = subst GivesUp d.1 g

-- so each of the others is carried to its end
few-carried : DoneLaws → (text : List ℕ) (script : ScriptValue) (files : Both (List ℕ)) → ScriptSpelling text script → LosesFew script files
    → IsCarried script files
few-carried laws text script files spelled f = record {
  stays = f.stays;
  not_starved = λ end left r g starved.
      done-kept end (laws.few_losses script files end left (laws.limits text script spelled) r (f.few end left r) (f.stays end left r)) g;
}

-- is carried that is done however it ends
done-carried : (script : ScriptValue) (files : Both (List ℕ))
    → ((end : RunEnd) (left : Left) → ScriptRunsTo script files end left → EndsDone end) → IsCarried script files
done-carried script files done = record {
  stays = λ end left r x. done-stays end (done end left r) x;
  not_starved = λ end left r g starved. done-kept end (done end left r) g;
}

named-carried : DoneLaws → (text : List ℕ) (script : ScriptValue) (files : Both (List ℕ)) → ScriptSpelling text script
    → NamesFew script → ((role : Role) → AreOctets (of role files)) → IsCarried script files
named-carried laws text script files spelled f are =
    let limits = laws.limits text script spelled in
    let octets : AreOfOctets script files = record { files_are = are; breaks_are = laws.breaks text script spelled } in
    done-carried script files (λ end left r. laws.few_named script files end left limits f.faint octets f.few r)

quiet-carried : DoneLaws → (text : List ℕ) (script : ScriptValue) (files : Both (List ℕ)) → ScriptSpelling text script
    → IsQuiet script → ((role : Role) → AreOctets (of role files)) → IsCarried script files
quiet-carried laws text script files spelled q are =
    let limits = laws.limits text script spelled in
    let octets : AreOfOctets script files = record { files_are = are; breaks_are = laws.breaks text script spelled } in
    done-carried script files (λ end left r. laws.quiet script files end left limits q octets r)

undisturbed-carried : DoneLaws → (text : List ℕ) (script : ScriptValue) (files : Both (List ℕ)) → ScriptSpelling text script
    → IsUndisturbed script → ((role : Role) → AreOctets (of role files)) → IsCarried script files
undisturbed-carried laws text script files spelled u are =
    let limits = laws.limits text script spelled in
    let octets : AreOfOctets script files = record { files_are = are; breaks_are = laws.breaks text script spelled } in
    done-carried script files (λ end left r. laws.undisturbed script files end left limits u.no_losses u.no_hits u.no_noises octets r)

carried-done : DoneLaws → (words : List (List ℕ)) (old new : FolderState) (n : RunNames) (s : Status) → Answers (run_job n) words old new s
    → DoneWhere old new n s (λ script files. ((role : Role) → AreOctets (of role files)) → IsCarried script files)
carried-done laws words old new n s a sound script r c =
    done-unless-memory (run_job n) words old new s a sound (λ answer ends. never-own laws old a.before n script answer r c ends.0)

-- ---- over a sound folder the answer is that of the one run that there is

-- the script and the files of the run that was made
inputs-run : ScriptsAreOne → (old before : FolderState) (n : RunNames) (script : ScriptValue) (found : RunEnd) → AreRight old n script
    → (e : RanTo LIMITS old before n found) → ScriptRunsTo script (files_at old n) found e.left
inputs-run law old before n script found r e =
    let same : script ≡ e.script = law (octets_at old n.script) script e.script r.spelled (e.takes.opens.reads.spelled r.script_told) in
    let at-orig : ScriptRunsTo e.script (record { orig = octets_at old n.names.orig; answ = e.files.answ }) found e.left =
    subst (λ (o : List ℕ). ScriptRunsTo e.script (record { orig = o; answ = e.files.answ }) found e.left) (e.takes.orig r.orig_told) e.run
    in
    let at-files : ScriptRunsTo e.script (files_at old n) found e.left =
    subst (λ (a : List ℕ). ScriptRunsTo e.script (record { orig = octets_at old n.names.orig; answ = a }) found e.left)
    (e.takes.answ r.answ_told) at-orig in
    subst (λ (s : ScriptValue). ScriptRunsTo s (files_at old n) found e.left) (sym same) at-files

answered : DoneLaws → (old before new : FolderState) (n : RunNames) (s : Status) (script : ScriptValue) (found end : RunEnd) (left : Left)
    → OnlyOutputs before new [] → AreRight old n script → RanTo LIMITS old before n found → ScriptRunsTo script (files_at old n) end left
    → s ≡ answer_of found → Answered new n end left s
answered laws old before new n s script found end left last r e run is =
    let one = laws.result (wire_of script) (link_of script (files_at old n)) found end e.left left
    (inputs-run laws.one old before n script found r e) run in
    record {
      answer = is ∙ ap answer_of one.0;
      holds = subst (λ (l : Left). HoldEach new (texts_of n) (held_of l)) one.1
          (HoldEach-kept before new (texts_of n) (held_of e.left) last.goes_on e.holds (kept (texts_of n)));
    }
  where
    kept : (names : List (List ℕ)) → KeepsEach before new names
    kept [] = tt
    kept (name ∷ names) = (last.names name tt, kept names)

exact-of : DoneLaws → (words : List (List ℕ)) (old new : FolderState) (n : RunNames) (s : Status) → Answers (run_job n) words old new s
    → AnsweredByItsEnd old new n s
exact-of laws words old new n s a sound script r end left run = by (comes-to (run_job n) words old new s a sound)
  where
    last : OnlyOutputs a.before new []
    last = last-only done_line words a.before new a.end s a.says

    own : (answer : Status) → s ≡ answer → EndsBy LIMITS old a.before n (Own answer) → Answered new n end left s ⊎ (s ≡ NoMemory)
    own answer e (inl refused) = absurd (never-refused laws.apart old n script answer r refused.1)
    own answer e (inr ran) =
        let by-end = stopped-by (RanTo LIMITS old a.before n) answer ran in
        inl (answered laws old a.before new n s script by-end.0 end left last r by-end.2 run (e ∙ by-end.1))

    by : Comes a.end s → Answered new n end left s ⊎ (s ≡ NoMemory)
    by (is_done turn is e) =
        inl (answered laws old a.before new n s script (runs.IsDone turn) end left last r
        (subst (λ (x : Result ℕ Stop). Ends LIMITS old a.before n x) is a.ends.0) run e)
    by (is_own answer is e) = own answer e (subst (λ (x : Result ℕ Stop). Ends LIMITS old a.before n x) is a.ends.0)
    by (is_memory e) = inr e

pub completes-of : DoneLaws → (words : List (List ℕ)) (old new : FolderState) (n : RunNames) (s : Status)
    → Answers (run_job n) words old new s → Completes old new n s
completes-of laws words old new n s a =
    let done = carried-done laws words old new n s a in
    record {
      exact = exact-of laws words old new n s a;
      carried = λ sound script r c. done sound script r (λ are. c);
      few_losses = λ sound script r f.
          done sound script r (λ are. few-carried laws (octets_at old n.script) script (files_at old n) r.spelled f);
      few_named = λ sound script r f. done sound script r (named-carried laws (octets_at old n.script) script (files_at old n) r.spelled f);
      quiet = λ sound script r q. done sound script r (quiet-carried laws (octets_at old n.script) script (files_at old n) r.spelled q);
      undisturbed = λ sound script r u.
          done sound script r (undisturbed-carried laws (octets_at old n.script) script (files_at old n) r.spelled u);
    }
