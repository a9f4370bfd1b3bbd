-- From every answer to what the command promises.
use Rattle.run_commands.proofs.Names.{◌≡◌, ◌∙◌, ◌⊎◌, inl, inr, ℕ, Bool, true, false, IsTrue, List, [], ◌++◌, length, ◌≤◌, ◌<◌, Result, refl}
use Rattle.run_commands.proofs.Names.{ap, subst, arith, option_map, refusal-own, last-only, done-of, shared-of, done-unless-memory, Comes}
use Rattle.run_commands.proofs.Names.{is_done, is_own, is_memory, comes-to, IsWithin, Answers, done_line, IsSound, IsRefusal, end_status}
use Rattle.run_commands.proofs.Names.{Status, Done, TooLong, NotDetected, LinkLost, NoMemory, Stop, FolderState, octets_at, KeepsAll}
use Rattle.run_commands.proofs.Names.{OnlyOutputs, HoldLeft, OneResult, PeerEnd, IsDone, GivesUp, Names, inputs_of, outputs_of, stopped-so}
use Rattle.run_commands.proofs.Names.{LinkFault, FILE_LIMIT}
use Rattle.command_base.specs.declared.status.Status.TheVariants.{PeerFault}
use Rattle.command_base.specs.declared.stop.Stop.TheVariants as stops
use Rattle.run_commands.specs.Peering.Runs.{Left}
use Rattle.run_commands.specs.Peering.Ends.{Ends, EndsBy, IsTooLong, RanTo, answer_of, peer_job}
use Rattle.run_commands.specs.Peering.Headline.{Ran, GaveUp, RanBy, Headline}
use Rattle.run_commands.specs.Peering.Completes.{AreTold, InputsRunTo, Answered, Completes}

own-refused : (old before : FolderState) (n : Names) (answer : Status) → IsRefusal answer → EndsBy old before n (stops.Own answer)
    → KeepsAll old before
own-refused old before n answer r b = grind (arith)

pub refused-by : (old before : FolderState) (n : Names) (end : Result ℕ Stop) → Ends old before n end → IsRefusal (end_status end)
    → KeepsAll old before
refused-by old before n end e = grind (arith, refusal-own, own-refused)

-- ---- the headline

ran-of : (old before new : FolderState) (n : Names) (end : PeerEnd) → OnlyOutputs before new [] → RanTo old before n end → Ran old new n end
ran-of old before new n end last r = grind (arith)

-- answers of an end that gives its link up
abbrev is_given_up : Status → Bool
is_given_up (NotDetected turn) = true
is_given_up (LinkLost role segment turn) = true
is_given_up (PeerFault fault turn) = true
is_given_up answer = false

-- it is none of an input's length
not-long : (old : FolderState) (n : Names) (t : Status) → is_given_up t ≡ true → IsTooLong old n t → ⊥
not-long old n t e b = grind (arith)

gave-up : (words : List (List ℕ)) (old new : FolderState) (n : Names) (s t : Status) (a : Answers (peer_job n) words old new s)
    → OnlyOutputs a.before new [] → is_given_up t ≡ true → s ≡ t → GaveUp old new n t
gave-up words old new n s t a last e f =
    let is = stopped-so is_given_up (record { done = refl; read = refl; write = refl; memory = refl }) done_line words a.before new a.end
    s t a.says f e in
    by (subst (Ends old a.before n) is a.ends.0)
  where
    by : EndsBy old a.before n (stops.Own t) → GaveUp old new n t
    by (inl refused) = absurd (not-long old n t e refused.1)
    by (inr r) = (r.0, r.1, r.2, ran-of old a.before new n (GivesUp r.0 r.1) last r.3)

ran-by : (words : List (List ℕ)) (old new : FolderState) (n : Names) (s t : Status) (a : Answers (peer_job n) words old new s)
    → OnlyOutputs a.before new [] → s ≡ t → RanBy old new n t
ran-by words old new n s Done a last e =
    let d = done-of (peer_job n) words old new s a e in
    (d.done, d.said ∙ ap (option_map (λ x. x ++ done_line d.done)) d.ends.1, ran-of old a.before new n (IsDone d.done) last d.ends.0)
ran-by words old new n s (NotDetected turn) a last e = gave-up words old new n s (NotDetected turn) a last refl e
ran-by words old new n s (LinkLost role segment turn) a last e = gave-up words old new n s (LinkLost role segment turn) a last refl e
ran-by words old new n s (PeerFault fault turn) a last e = gave-up words old new n s (PeerFault fault turn) a last refl e
ran-by words old new n s t a last e = tt

-- what the command promises holds of every answer
pub headline-of : (words : List (List ℕ)) (old new : FolderState) (n : Names) (s : Status) → Answers (peer_job n) words old new s
    → Headline old new n s
headline-of words old new n s a = record {
  shared = shared-of (peer_job n) words old new s a (λ e. e.0.0);
  ran = ran-by words old new n s s a (last-only done_line words a.before new a.end s a.says) refl;
}

-- ---- over a sound folder

never-long : (old : FolderState) (n : Names) (answer : Status) → AreTold old n → IsTooLong old n answer → ⊥
never-long old n answer t b = grind (arith)

inputs-run : (old before : FolderState) (n : Names) (end : PeerEnd) → AreTold old n → (r : RanTo old before n end)
    → InputsRunTo old n end r.left
inputs-run old before n end t r = grind (arith)

-- it is the one end that the run has
answered : OneResult → (old before new : FolderState) (n : Names) (s : Status) (found end : PeerEnd) (left : Left)
    → OnlyOutputs before new []
    → AreTold old n → RanTo old before n found → InputsRunTo old n end left → s ≡ answer_of n.role found → Answered new n end left s
unfolding ran-of
answered law old before new n s found end left last t r run e =
    let one = law n.role (octets_at old n.file) (octets_at old n.bits) found end r.left left (inputs-run old before n found t r) run in
    record { answer = e ∙ ap (answer_of n.role) one.0; holds = subst (HoldLeft new n) one.1 (ran-of old before new n found last r).holds }

-- over a sound folder it is what a done end and an answer of the command's own say
by-ends : {Q : Type 0} (words : List (List ℕ)) (old new : FolderState) (n : Names) (s : Status) (a : Answers (peer_job n) words old new s)
    → IsSound old new (inputs_of n) (outputs_of n) → ((turns : ℕ) → s ≡ Done → RanTo old a.before n (IsDone turns) → Q)
    → ((answer : Status) → s ≡ answer → EndsBy old a.before n (stops.Own answer) → Q) → Q ⊎ (s ≡ NoMemory)
by-ends {Q} words old new n s a sound done own = by (comes-to (peer_job n) words old new s a sound)
  where
    by : Comes a.end s → Q ⊎ (s ≡ NoMemory)
    by (is_done turns is e) = inl (done turns e (subst (λ (x : Result ℕ Stop). Ends old a.before n x) is a.ends.0))
    by (is_own answer is e) = inl (own answer e (subst (λ (x : Result ℕ Stop). Ends old a.before n x) is a.ends.0))
    by (is_memory e) = inr e

exact-of : OneResult → (words : List (List ℕ)) (old new : FolderState) (n : Names) (s : Status) → Answers (peer_job n) words old new s
    → IsSound old new (inputs_of n) (outputs_of n) → AreTold old n → (end : PeerEnd) (left : Left) → InputsRunTo old n end left
    → Answered new n end left s ⊎ (s ≡ NoMemory)
exact-of law words old new n s a sound t end left run =
    by-ends words old new n s a sound (λ turns e r. answered law old a.before new n s (IsDone turns) end left last t r run e) own
  where
    last : OnlyOutputs a.before new []
    last = last-only done_line words a.before new a.end s a.says

    own : (answer : Status) → s ≡ answer → EndsBy old a.before n (stops.Own answer) → Answered new n end left s
    own answer e (inl refused) = absurd (never-long old n answer t refused.1)
    own answer e (inr r) = answered law old a.before new n s (GivesUp r.0 r.1) end left last t r.3 run (e ∙ r.2)

never-own : (old before : FolderState) (n : Names) (answer : Status) → AreTold old n
    → ((fault : LinkFault) (turn : ℕ) (left : Left) → InputsRunTo old n (GivesUp fault turn) left → ⊥)
    → EndsBy old before n (stops.Own answer) → ⊥
never-own old before n answer t stays (inl refused) = never-long old n answer t refused.1
never-own old before n answer t stays (inr e) = stays e.0 e.1 e.3.left (inputs-run old before n (GivesUp e.0 e.1) t e.3)

never-short : (old : FolderState) (name : List ℕ) → IsTrue (old.tells name) → 1048576 < length (octets_at old name)
    → IsWithin old name FILE_LIMIT → ⊥
never-short old name told longer within = omega (arith, longer, within told)

-- an answer that isn't for an input's length says that both are within their limits
bits-long : (words : List (List ℕ)) (old new : FolderState) (n : Names) (s : Status) → Answers (peer_job n) words old new s
    → IsSound old new (inputs_of n) (outputs_of n) → IsTrue (old.tells n.bits) → 1048576 < length (octets_at old n.bits)
    → (s ≡ TooLong 3) ⊎ (s ≡ NoMemory)
bits-long words old new n s a sound told longer =
    by-ends words old new n s a sound (λ turns e r. absurd (never-short old n.bits told longer r.takes.bits_within)) own
  where
    own : (answer : Status) → s ≡ answer → EndsBy old a.before n (stops.Own answer) → s ≡ TooLong 3
    own answer e b = grind (arith)

file-long : (words : List (List ℕ)) (old new : FolderState) (n : Names) (s : Status) → Answers (peer_job n) words old new s
    → IsSound old new (inputs_of n) (outputs_of n) → IsTrue (old.tells n.bits) → length (octets_at old n.bits) ≤ 1048576
    → IsTrue (old.tells n.file) → 1048576 < length (octets_at old n.file) → (s ≡ TooLong 2) ⊎ (s ≡ NoMemory)
file-long words old new n s a sound bits-told within told longer =
    by-ends words old new n s a sound (λ turns e r. absurd (never-short old n.file told longer r.takes.file_within)) own
  where
    own : (answer : Status) → s ≡ answer → EndsBy old a.before n (stops.Own answer) → s ≡ TooLong 2
    own answer e b = grind (arith)

pub completes-of : OneResult → (words : List (List ℕ)) (old new : FolderState) (n : Names) (s : Status)
    → Answers (peer_job n) words old new s
    → Completes old new n s
completes-of law words old new n s a = record {
  exact = exact-of law words old new n s a;
  done = λ sound t stays.
      done-unless-memory (peer_job n) words old new s a sound (λ answer e. never-own old a.before n answer t stays e.0);
  bits_long = bits-long words old new n s a;
  file_long = file-long words old new n s a;
}
