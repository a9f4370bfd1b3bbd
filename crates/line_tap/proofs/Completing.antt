-- From every answer to that which right inputs have.
use Rattle.line_tap.proofs.Cited.{◌≡◌, ◌⊎◌, inl, inr, ℕ, List, [], ◌++◌, drop, Result, sym, ◌∙◌, ap, subst, arith, last-only, Answers}
use Rattle.line_tap.proofs.Cited.{turns_line, Status, Stop, Left, TapEnd, TellsOnce, TapNames, outputs_of, recordings_of, IsRefused, Tapped}
use Rattle.line_tap.proofs.Cited.{Ends, tap_job, tapping, held_of, ScriptValue, IsInLimits, HoldEach-kept, FolderState, octets_at, HoldEach}
use Rattle.line_tap.proofs.Cited.{OnlyOutputs, header_of, RefusesOwn, Mode, Call, Answer, Both, Originator, Answerer}
use Rattle.noise_script.specs.Laws.{ScriptsAreOne, NoFaultInScripts}
use Rattle.line_tap.specs.Ends.{TapOf}
use Rattle.line_tap.specs.Ends as ends
use Rattle.command_base.specs.declared.status.Status.TheVariants.{BadScript, TooLong, NoMemory}
use Rattle.command_base.specs.declared.stop.Stop.TheVariants as stops
use Rattle.command_base.proofs.Jobs.{Comes, is_done, is_own, is_memory, comes-to}
use Rattle.line_tap.specs.declared.limits.TheConstants.{LIMITS}
use Rattle.line_tap.specs.Outcomes.{TappedBy, EndsBy}
use Rattle.line_tap.specs.Answers.{answer_of}
use Rattle.line_tap.specs.Completes.{AreRight, Answered, Completes}
use Rattle.line_tap.proofs.Headline.{keeps-each}

-- ---- right inputs are not refused

-- for their lengths, or for the script,
never-own : NoFaultInScripts → (old : FolderState) (n : TapNames) (script : ScriptValue) (bodies : Both (List ℕ)) (answer : Status)
    → AreRight old n script bodies → RefusesOwn LIMITS old n.script 3 (recordings_of n) 1 answer → ⊥
never-own law old n script bodies (TooLong word) r (inl s) = grind (arith)
never-own law old n script bodies (TooLong word) r (inr f) = grind (arith)
never-own law old n script bodies (BadScript line cause) r s = law (octets_at old n.script) script line cause r.spelled
    (s.first r.script_told)
never-own law old n script bodies answer r never = never

never-refused : NoFaultInScripts
    → (old before : FolderState) (n : TapNames) (script : ScriptValue) (bodies : Both (List ℕ)) (answer : Status)
    → AreRight old n script bodies → IsRefused LIMITS old before n (stops.Own answer) → ⊥
never-refused law old before n script bodies answer r (inl own) = never-own law old n script bodies answer r own
never-refused law old before n script bodies answer r (inr refused) = grind (arith)

-- ---- the tap that was made is the one of these inputs

same-script : ScriptsAreOne → (old before : FolderState) (n : TapNames) (script : ScriptValue) (bodies : Both (List ℕ)) (found : TapEnd)
    → AreRight old n script bodies → (e : Tapped LIMITS old before n found) → script ≡ e.script
same-script law old before n script bodies found r e =
    law (octets_at old n.script) script e.script r.spelled (e.opens.reads.spelled r.script_told)

-- octets behind one header are one
behind-one : (mode : Mode) (octets a b : List ℕ) → octets ≡ header_of mode ++ a → octets ≡ header_of mode ++ b → a ≡ b
behind-one mode octets a b is other = ap (λ (xs : List ℕ). drop 8 xs) (sym is ∙ other)

inputs-tap : ScriptsAreOne → (old before : FolderState) (n : TapNames) (script : ScriptValue) (bodies : Both (List ℕ)) (found : TapEnd)
    → AreRight old n script bodies → (e : Tapped LIMITS old before n found) → TapOf (tapping script bodies) found e.ends.left
inputs-tap law old before n script bodies found r e =
    let orig : bodies.orig ≡ e.ends.bodies.orig =
    behind-one Call (octets_at old n.rec_o) bodies.orig e.ends.bodies.orig r.orig_is (e.ends.knows Originator r.orig_told) in
    let answ : bodies.answ ≡ e.ends.bodies.answ =
    behind-one Answer (octets_at old n.rec_a) bodies.answ e.ends.bodies.answ r.answ_is (e.ends.knows Answerer r.answ_told) in
    let at-orig : TapOf (tapping e.script (record { orig = bodies.orig; answ = e.ends.bodies.answ })) found e.ends.left =
    subst (λ (o : List ℕ). TapOf (tapping e.script (record { orig = o; answ = e.ends.bodies.answ })) found e.ends.left) (sym orig)
    e.ends.tap in
    let at-both : TapOf (tapping e.script bodies) found e.ends.left =
    subst (λ (a : List ℕ). TapOf (tapping e.script (record { orig = bodies.orig; answ = a })) found e.ends.left) (sym answ) at-orig in
    subst (λ (s : ScriptValue). TapOf (tapping s bodies) found e.ends.left) (sym (same-script law old before n script bodies found r e))
    at-both

answered : TellsOnce → ScriptsAreOne
    → (old before new : FolderState) (n : TapNames) (s : Status) (script : ScriptValue) (bodies : Both (List ℕ))
    (found end : TapEnd) (left : Left) → OnlyOutputs before new [] → AreRight old n script bodies → Tapped LIMITS old before n found
    → TapOf (tapping script bodies) end left → s ≡ answer_of found → Answered new n end left s
answered once scripts old before new n s script bodies found end left last r e tap is =
    let limits : IsInLimits script = subst IsInLimits (sym (same-script scripts old before n script bodies found r e)) e.limits in
    let one = once (tapping script bodies) found end e.ends.left left limits (inputs-tap scripts old before n script bodies found r e) tap
    in
    record {
      answer = is ∙ ap answer_of one.0;
      holds = subst (λ (l : Left). HoldEach new (outputs_of n) (held_of l)) one.1
          (HoldEach-kept before new (outputs_of n) (held_of e.ends.left) last.goes_on e.ends.holds
          (keeps-each before new last (outputs_of n)));
    }

-- the end that an answer names
own-tapped : (old before : FolderState) (n : TapNames) (answer : Status) → TappedBy LIMITS old before n answer
    → (found : TapEnd) × (answer ≡ answer_of found) × Tapped LIMITS old before n found
own-tapped old before n answer e = grind (arith)

pub completes-of : TellsOnce → ScriptsAreOne → NoFaultInScripts
    → (words : List (List ℕ)) (old new : FolderState) (n : TapNames) (s : Status)
    → Answers (tap_job n) words old new s → Completes old new n s
completes-of once scripts apart words old new n s a sound script bodies r end left tap = by (comes-to (tap_job n) words old new s a sound)
  where
    last : OnlyOutputs a.before new []
    last = last-only turns_line words a.before new a.end s a.says

    own : (answer : Status) → s ≡ answer → EndsBy LIMITS old a.before n (stops.Own answer) → Answered new n end left s ⊎ (s ≡ NoMemory)
    own answer e (inl refused) = absurd (never-refused apart old a.before n script bodies answer r refused.1)
    own answer e (inr tapped) =
        let by-end = own-tapped old a.before n answer tapped in
        inl (answered once scripts old a.before new n s script bodies by-end.0 end left last r by-end.2 tap (e ∙ by-end.1))

    by : Comes a.end s → Answered new n end left s ⊎ (s ≡ NoMemory)
    by (is_done turns is e) =
        inl (answered once scripts old a.before new n s script bodies (ends.IsDone turns) end left last r
        (subst (λ (x : Result ℕ Stop). Ends LIMITS old a.before n x) is a.ends.0) tap e)
    by (is_own answer is e) = own answer e (subst (λ (x : Result ℕ Stop). Ends LIMITS old a.before n x) is a.ends.0)
    by (is_memory e) = inr e
