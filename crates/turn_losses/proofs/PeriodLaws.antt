-- What holds of polls and their answers in every run.
use Rattle.std.proofs.lemmas.Option.{slice_get_past}
use Rattle.std.specs.Prelude.{◌≡◌, ℕ, ◌+◌, ◌<◌, ◌≤◌, true, false}
use Rattle.link_account.specs.Account.{Account, is_connected}
use Rattle.turn_losses.proofs.Names.{inl, inr, zero, suc, ◌-◌, Bool, cond, length, arith, refl, sym, ◌∙◌, ap, subst, Some, ◌⊎◌, ◌*◌, Role}
use Rattle.turn_losses.proofs.Names.{Frame, Sent, Arrived, arrives, slice_get, other, of, arrival, sent_in, Carries, Turn, of_frame}
use Rattle.turn_losses.proofs.Names.{of_arrived, arrives-flag, is_lost, clash, not-true, is-true, or-late, poll_due, EndRun, sends_poll}
use Rattle.turn_losses.proofs.Names.{hears_poll, sends_final, hears_final, past, sent_or, ArrivesLate, TimedRun, end_of, TwoEnds, is_linked}
use Rattle.turn_losses.proofs.Names.{is_poll, is_final}
use Rattle.turn_bound.proofs.Tied.{sent_of, none-heard, one-heard}
use Rattle.turn_losses.proofs.PollsFresh.{WasSent, Polls, Fresh, polls-fresh, sent-soon, sent-apart}
use Rattle.turn_losses.proofs.Tracing.{past-all, past-length, starts-fresh}
use Rattle.lapm_frames.specs.declared.arrived.Arrived.TheVariants as arrivals
use Rattle.turn_losses.proofs.Kept.{kept-in, kept-on}
use Rattle.turn_losses.proofs.Clocks.{last}

-- What a response with F = 1 answers: a poll sent a round trip before, which became due in that turn or the one before it; none became due
-- since.
pub record Answers (turn : ℕ) (e o : EndRun) : Type 0 where
  pub sent : ℕ  -- the turn in which the poll was sent
  pub round_trip : sent + (e.delay + o.delay) ≡ turn
  pub is_sent : sends_poll e sent ≡ true
  pub due : ℕ  -- the turn in which it became due
  pub due_before : due ≤ sent
  pub due_soon : sent ≤ due + 1
  pub made : e.made due ≡ true
  pub none_since : (t : ℕ) → due < t → t ≤ turn → e.made t ≡ true → ⊥

pub record StillAwaited (a : Account) : Type 0 where
  pub awaited : a.outgoing.awaited ≡ true
  pub none_due : poll_due a ≡ false

-- the turn so many turns ago
pub looked : (w : TimedRun) → (k t : ℕ) → t + k < length w.ts → slice_get (past w.ts (t + k + 1)) k ≡ Some (w.deed t).turn
looked w zero t l = ap (λ n. slice_get (past w.ts n) 0) (omega arith) ∙ ap (λ us. slice_get us 0) (w.trace.grows t (omega (arith, l)))
looked w (suc k) t l = grind (arith, looked w k t (omega (arith, l)))

-- what a line carries in a turn of a run, or in the one behind it
pub carries-late : (w : TimedRun) (t : ℕ) → t ≤ length w.ts → (x : Turn) → Carries w.delay (past w.ts t) x → (role : Role)
    → ArrivesLate (w.delay (other role)) t (is_lost (of role x).heard) (end_of w (other role)).slot (arrival (of role x).heard)
carries-late w t within x carries role = record { early = early; late = late }
  where
    d : ℕ
    d = w.delay (other role)

    one : 1 ≤ d
    one = w.keeps.delays (other role)

    early : t < d → arrival (of role x).heard ≡ arrivals.Nothing
    early l = grind (arith, past-length, none-heard, slice_get_past)

    late : d ≤ t → arrival (of role x).heard ≡ cond (is_lost (of role x).heard) arrivals.Nothing
        (arrives ((end_of w (other role)).slot (t - d)))
    late g =
        let turn : slice_get (past w.ts t) (d - 1) ≡ Some (w.deed (t - d)).turn =
        ap (λ n. slice_get (past w.ts n) (d - 1)) (omega (arith, g, one)) ∙ looked w (d - 1) (t - d) (omega (arith, g, one, within)) in
        let s = (w.trace.happens (t - d) (omega (arith, g, within, one))).speaking (other role) in
        sym (one-heard (sent_in (other role) (slice_get (past w.ts t) (d - 1))) ((end_of w (other role)).slot (t - d)) (of role x).heard
        (ap (λ m. sent_of (sent_in (other role) m)) turn ∙ (ap sent_of s.sent_is ∙ ap (λ m. Some (sent_or m)) (sym s.sent_is)))
        (carries role))

-- both lines of a run
pub arrives-late : (w : TimedRun) → (role : Role) → (t : ℕ) → t < length w.ts
    → ArrivesLate (w.delay (other role)) t ((end_of w role).loses t) (end_of w (other role)).slot ((end_of w role).heard t)
arrives-late w role t within = carries-late w t (omega (arith, within)) (w.deed t).turn (w.trace.happens t within).carries role

-- a frame of some kind that is heard was sent
pub was-sent : {delay turns : ℕ} {f : ℕ → Sent} {arrived : ℕ → Arrived} {loses : ℕ → Bool} (kind : Frame → Bool)
    → ((t : ℕ) → t < turns → ArrivesLate delay t (loses t) f (arrived t))
    → WasSent delay turns (λ t. of_arrived kind (arrived t)) (λ t. of_frame kind (f t))
was-sent {delay} {turns} {f} {arrived} {loses} kind h t within is_heard = grind (arith)

-- what is sent is heard unless it is lost
pub is-heard : {delay turns : ℕ} {f : ℕ → Sent} {arrived : ℕ → Arrived} {loses : ℕ → Bool} (kind : Frame → Bool)
    → ((t : ℕ) → t < turns → ArrivesLate delay t (loses t) f (arrived t))
    → (t : ℕ) → t + delay < turns → loses (t + delay) ≡ false → of_arrived kind (arrived (t + delay)) ≡ of_frame kind (f t)
is-heard {delay} {turns} {f} {arrived} {loses} kind h t within passes = grind (arith, arrives-flag)

-- what one role sent so long before the last turn arrives in it, unless it is lost
pub last-heard : (kind : Frame → Bool) (w : TimedRun) (t : Turn) → Carries w.delay w.ts t → (r : Role) (s : ℕ)
    → s + w.delay (other r) ≡ length w.ts → is_lost (of r t).heard ≡ false
    → of_arrived kind (arrival (of r t).heard) ≡ of_frame kind ((end_of w (other r)).slot s)
last-heard kind w t cs r s same f = ap (of_arrived kind)
    ((carries-late w (length w.ts) (omega arith) t (subst (λ us. Carries w.delay us t) (sym (past-all w.ts)) cs) r).late
    (omega (arith, same))
    ∙ (ap (λ b. cond b arrivals.Nothing (arrives ((end_of w (other r)).slot (length w.ts - w.delay (other r))))) f
    ∙ ap (λ n. arrives ((end_of w (other r)).slot n)) (omega (arith, same)))) ∙ arrives-flag kind ((end_of w (other r)).slot s)

pub two-ends : (w : TimedRun) → (role : Role) → TwoEnds w.period (length w.ts) (end_of w role) (end_of w (other role))
two-ends w role = record {
  own = λ t l. (w.trace.happens t l).polls role;
  other = λ t l. (w.trace.happens t l).polls (other role);
  hears = arrives-late w role;
  is_heard = heard role;
  own_first = none role;
  other_first = none (other role);
  own_delay = w.keeps.delays role;
  other_delay = w.keeps.delays (other role);
  period_is = sum role;
}
  where
    heard : (r : Role) → (t : ℕ) → t < length w.ts
        → ArrivesLate (w.delay r) t (is_lost (of (other r) (w.deed t).turn).heard) (λ n. sent_or (of r (w.deed n).turn).sent)
        (arrival (of (other r) (w.deed t).turn).heard)
    heard r = grind (arith, arrives-late)

    none : (r : Role) → poll_due (of r (w.state 0)) ≡ false
    none r = ap poll_due (starts-fresh w r)

    sum : (r : Role) → w.period ≡ 2 * (w.delay r + w.delay (other r)) + 16
    sum b = grind (arith)

-- the same seen from the other end
pub turned : {period turns : ℕ} {e o : EndRun} → TwoEnds period turns e o → TwoEnds period turns o e
turned {period} {turns} {e} {o} k = grind (arith)

-- Polls that became due at one end are a period apart: while its clock runs, it was set no earlier than the last of them.
pub record SetSince (s : ℕ) (a : Account) : Type 0 where
  pub linked : is_linked a.phase ≡ true
  pub set : is_connected a.phase ≡ true → (r : ℕ) → a.wait.timer ≡ Some r → s ≤ r

pub set-since : {period turns : ℕ} {e o : EndRun} → TwoEnds period turns e o → (s : ℕ) → e.made s ≡ true → (t : ℕ) → s < t → t ≤ turns
    → SetSince s (e.account t)
set-since {period} {turns} {e} {o} k s m t less within = kept-in (λ u. SetSince s (e.account u)) (s + 1) t (omega (arith, less)) later
    (record { linked = (k.own s first).made_linked m; set = λ c r w. let v = (k.own s first).made_timer m c r w in omega (arith, v) })
  where
    first : s < turns
    first = omega (arith, less, within)

    later : (u : ℕ) → s + 1 ≤ u → u < t → SetSince s (e.account u) → SetSince s (e.account (u + 1))
    later u lo hi i = let q = k.own u (omega (arith, hi, within)) in
        record {
          linked = q.linked i.linked;
          set = λ c r w. let z = q.timer c i.linked in elim (z.1 r w) [
            | inl v ↦ omega (arith, v, lo)
            | inr v ↦ i.set z.0 r v
          ];
        }

own-polls : {period turns : ℕ} {e o : EndRun} → TwoEnds period turns e o
    → Polls period turns (λ t. poll_due (e.account t)) e.made (sends_poll e) (hears_poll e)
own-polls {period} {turns} {e} {o} k = record {
  none_at_first = k.own_first;
  due_from = λ t l d m. (k.own t l).due_from d m;
  held_up = λ t l d. (k.own t l).held_up d;
  sent_from = λ t l d m. (k.own t l).sent_from d m;
  sent_done = λ t l d. (k.own t l).sent_done d;
  apart = λ s t less within m n.
      let i = set-since k s m t less (omega (arith, within)) in
      let w = (k.own t within).made_from n i.linked in
      let far : s ≤ w.1 = i.set w.0 w.1 w.2 in
      let due = w.3 in omega (arith, far, due);
}

-- Polls due at one end became due at least a period apart.
pub due-apart : {period turns : ℕ} {e o : EndRun} → TwoEnds period turns e o → (s t : ℕ) → s < t → t < turns → e.made s ≡ true
    → e.made t ≡ true → s + period ≤ t
due-apart {period} {turns} {e} {o} k = (own-polls k).apart

-- A poll that is still due between turns became due in the last one.
pub poll-fresh : {period turns : ℕ} {e o : EndRun} → TwoEnds period turns e o → Fresh turns (λ t. poll_due (e.account t)) e.made
poll-fresh {period} {turns} {e} {o} k =
    let p = k.period_is in
    (polls-fresh period e.delay o.delay turns (λ t. poll_due (e.account t)) e.made (sends_poll e) (hears_poll e)
    (λ t. poll_due (o.account t)) o.made (sends_poll o) (hears_poll o) (omega (arith, p)) k.own_delay k.other_delay
    (own-polls k) (own-polls (turned k)) (was-sent is_poll k.hears) (was-sent is_poll k.is_heard)).0

-- Polls are sent at least a period less one turn apart.
pub polls-apart : {period turns : ℕ} {e o : EndRun} → TwoEnds period turns e o → (s t : ℕ) → s < t → t < turns → sends_poll e s ≡ true
    → sends_poll e t ≡ true → s + period ≤ t + 1
polls-apart {period} {turns} {e} {o} k =
    sent-apart period turns (λ t. poll_due (e.account t)) e.made (sends_poll e) (hears_poll e) (own-polls k)
    (poll-fresh k)

-- A poll that became due goes in that turn or in the next one.
pub poll-soon : {period turns : ℕ} {e o : EndRun} → TwoEnds period turns e o → (t : ℕ) → t < turns → sends_poll e t ≡ true
    → (e.made t ≡ true) ⊎ ((s : ℕ) × (t ≡ s + 1) × (e.made s ≡ true) × (poll_due (e.account t) ≡ true))
poll-soon {period} {turns} {e} {o} k =
    sent-soon period turns (λ t. poll_due (e.account t)) e.made (sends_poll e) (hears_poll e) (own-polls k)
    (poll-fresh k)

pub reply-matches : {period turns : ℕ} {e o : EndRun} → TwoEnds period turns e o → (t : ℕ) → t < turns → hears_final e t ≡ true
    → Answers t e o
reply-matches {period} {turns} {e} {o} k t within h = elim (poll-soon k sent (omega (arith, within)) asked.1) [
  | inl m ↦ answers sent (omega arith) (omega arith) m
  | inr z ↦ answers z.0 (omega (arith, z.1)) (omega (arith, z.1)) z.2
]
  where
    replied : (o.delay ≤ t) × (sends_final o (t - o.delay) ≡ true)
    replied = was-sent is_final k.hears t within h

    asked : (e.delay ≤ t - o.delay) × (sends_poll e (t - o.delay - e.delay) ≡ true)
    asked = was-sent is_poll k.is_heard (t - o.delay) (omega (arith, within))
        ((k.other (t - o.delay) (omega (arith, within))).replied replied.1)

    sent : ℕ
    sent = t - o.delay - e.delay

    back : sent + (e.delay + o.delay) ≡ t
    back = let x = asked.0 in let y = replied.0 in omega (arith, x, y)

    answers : (due : ℕ) → due ≤ sent → sent ≤ due + 1 → e.made due ≡ true → Answers t e o
    answers due before soon made = record {
      sent = sent;
      round_trip = back;
      is_sent = asked.1;
      due = due;
      due_before = before;
      due_soon = soon;
      made = made;
      none_since = λ x l m n. let far = due-apart k due x l (omega (arith, m, within)) made n in let p = k.period_is in
          omega (arith, far, m, soon, back, p);
    }

-- an end that was Connected stays so, or is told to release or Closed, for good
pub linked-on : {period turns : ℕ} {e o : EndRun} → TwoEnds period turns e o → (s t : ℕ) → s ≤ t → t ≤ turns
    → is_linked (e.account s).phase ≡ true → is_linked (e.account t).phase ≡ true
linked-on {period} {turns} {e} {o} k = kept-on turns (λ t. is_linked (e.account t).phase ≡ true) (λ u l. (k.own u l).linked)

-- where it is Connected it was so ever since
pub connected-since : {period turns : ℕ} {e o : EndRun} → TwoEnds period turns e o → (s t : ℕ) → t ≤ turns
    → is_linked (e.account s).phase ≡ true → is_connected (e.account t).phase ≡ true
    → (u : ℕ) → s ≤ u → u ≤ t → is_connected (e.account u).phase ≡ true
connected-since {period} {turns} {e} {o} k s t within h c u low high = is-true (is_connected (e.account u).phase)
    (λ q. clash (is_connected (e.account t).phase) c
    (kept-on turns (λ v. (is_linked (e.account v).phase ≡ true) × (is_connected (e.account v).phase ≡ false)) (λ v l x. (
      (k.own v l).linked x.0,
      not-true (is_connected (e.account (v + 1)).phase) (λ y. clash (is_connected (e.account v).phase) ((k.own v l).timer y x.0).0 x.1),
    ))
    u t high within (linked-on k s u low (omega (arith, high, within)) h, q)).1)

-- The poll that a response with F = 1 answers is awaited from when it became due.
pub awaits-on : {period turns : ℕ} {e o : EndRun} → TwoEnds period turns e o → (t : ℕ) → t < turns → is_connected (e.account t).phase ≡ true
    → (m : Answers t e o) → (u : ℕ) → m.due < u → u ≤ t → (e.account u).outgoing.awaited ≡ true
awaits-on {period} {turns} {e} {o} k t within c m = awaits
  where
    before : m.due < t
    before = omega (arith, m.round_trip, m.due_before, k.own_delay)

    linked : is_linked (e.account (m.due + 1)).phase ≡ true
    linked = (k.own m.due (omega (arith, before, within))).made_linked m.made

    connected : (u : ℕ) → m.due < u → u ≤ t → is_connected (e.account u).phase ≡ true
    connected u l g = connected-since k (m.due + 1) t (omega (arith, within)) linked c u (omega (arith, l)) g

    -- no answer came between
    no-answer : (u : ℕ) → m.due < u → u < t → (b : Bool) → hears_final e u ≡ b → b ≡ false
    no-answer u l g false q = refl
    no-answer u l g true q =
        let w = reply-matches k u (omega (arith, g, within)) q in
        let there = w.round_trip in
        let far : w.sent + period ≤ m.sent + 1 =
        polls-apart k w.sent m.sent (omega (arith, there, m.round_trip, g))
        (omega (arith, m.round_trip, within)) w.is_sent m.is_sent in
        let wrong : ⊥ = omega (arith, far, there, m.round_trip, l, m.due_soon, k.period_is) in absurd wrong

    awaits : (u : ℕ) → m.due < u → u ≤ t → (e.account u).outgoing.awaited ≡ true
    awaits u l g = kept-in (λ v. (e.account v).outgoing.awaited ≡ true) (m.due + 1) u (omega (arith, l)) later
        ((k.own m.due (omega (arith, before, within))).made_awaited m.made (connected (m.due + 1) (omega arith) (omega (arith, l, g))))
      where
        later : (v : ℕ) → m.due + 1 ≤ v → v < u → (e.account v).outgoing.awaited ≡ true → (e.account (v + 1)).outgoing.awaited ≡ true
        later v lo hi i =
            (k.own v (omega (arith, hi, g, within))).awaited (connected v (omega (arith, lo)) (omega (arith, hi, g)))
            (connected (v + 1) (omega (arith, lo)) (omega (arith, hi, g))) ∙ or-late (e.made v) _
            (ap (λ b. cond b false (e.account v).outgoing.awaited)
            (no-answer v (omega (arith, lo)) (omega (arith, hi, g)) (hears_final e v) refl) ∙ i)

-- A response with F = 1 that is heard: the poll that it answers is still awaited, and none is due.
pub still-awaited : {period turns : ℕ} {e o : EndRun} → TwoEnds period turns e o → (t : ℕ) → t < turns
    → is_connected (e.account t).phase ≡ true → hears_final e t ≡ true → StillAwaited (e.account t)
still-awaited {period} {turns} {e} {o} k t within c h =
    record { awaited = awaits-on k t within c m t before (omega arith); none_due = none (poll_due (e.account t)) refl }
  where
    m : Answers t e o
    m = reply-matches k t within h

    before : m.due < t
    before = omega (arith, m.round_trip, m.due_before, k.own_delay)

    none : (b : Bool) → poll_due (e.account t) ≡ b → poll_due (e.account t) ≡ false
    none false q = q
    none true q = at t refl
      where
        at : (x : ℕ) → t ≡ x → poll_due (e.account t) ≡ false
        at zero g = let wrong : ⊥ = omega (arith, g, before) in absurd wrong
        at (suc x) g = absurd (m.none_since x (omega (arith, g, m.round_trip, m.due_before, k.own_delay, k.other_delay)) (omega (arith, g))
            (poll-fresh k x (omega (arith, g, within)) (subst (λ n. poll_due (e.account n) ≡ true) (omega (arith, g)) q)))

-- A poll that became due at an end that was Connected goes in that turn or the next one.
pub poll-goes : {period turns : ℕ} {e o : EndRun} → TwoEnds period turns e o → (s : ℕ) → s + 1 < turns → e.made s ≡ true
    → is_connected (e.account s).phase ≡ true → is_connected (e.account (s + 1)).phase ≡ true
    → is_connected (e.account (s + 2)).phase ≡ true → (sends_poll e s ≡ true) ⊎ (sends_poll e (s + 1) ≡ true)
poll-goes {period} {turns} {e} {o} k s within m c0 c1 c2 = elim ((k.own s (omega (arith, within))).goes c0 c1 (inl m)) [
  | inl x ↦ inl x
  | inr x ↦ second ((k.own (s + 1) within).goes c1 (subst (λ n. is_connected (e.account n).phase ≡ true) (omega arith) c2) (inr x))
]
  where
    second : (sends_poll e (s + 1) ≡ true) ⊎ (poll_due (e.account (s + 1 + 1)) ≡ true)
        → (sends_poll e s ≡ true) ⊎ (sends_poll e (s + 1) ≡ true)
    second (inl x) = inr x
    second (inr x) =
        let far : s + period ≤ s + 1 =
        due-apart k s (s + 1) (omega arith) within m (poll-fresh k (s + 1) within x) in
        let p = k.period_is in let wrong : ⊥ = omega (arith, far, p) in absurd wrong

-- no line is lost in the turns from one on
abbrev pub NoneLost : EndRun → EndRun → ℕ → ℕ → Type 0
NoneLost e o from count = (t : ℕ) → from ≤ t → t < from + count → (e.loses t ≡ false) × (o.loses t ≡ false)

abbrev pub StayConnected : EndRun → ℕ → ℕ → Type 0
StayConnected e from last = (t : ℕ) → from ≤ t → t ≤ last → is_connected (e.account t).phase ≡ true

-- A poll that became due by an expiry is answered within a round trip and a turn, where no line is lost in that time and both ends stay
-- Connected.
pub answer-comes : {period turns : ℕ} {e o : EndRun} → TwoEnds period turns e o → (s : ℕ) → s + (e.delay + o.delay) + 1 < turns
    → e.made s ≡ true → StayConnected e s (s + 2) → StayConnected o s (s + (e.delay + o.delay) + 2)
    → NoneLost e o (s + 1) (e.delay + o.delay + 1)
    → (u : ℕ) × (s + (e.delay + o.delay) ≤ u) × (u ≤ s + (e.delay + o.delay) + 1) × (hears_final e u ≡ true)
answer-comes {period} {turns} {e} {o} k s within m ce co lost =
    go (poll-goes k s (omega (arith, within)) m (ce s (omega arith) (omega arith)) (ce (s + 1) (omega arith) (omega arith))
    (ce (s + 2) (omega arith) (omega arith)))
  where
    from : (q : ℕ) → s ≤ q → q ≤ s + 1 → sends_poll e q ≡ true
        → (u : ℕ) × (s + (e.delay + o.delay) ≤ u) × (u ≤ s + (e.delay + o.delay) + 1) × (hears_final e u ≡ true)
    from q low high sent =
        let polled : hears_poll o (q + e.delay) ≡ true =
        is-heard is_poll k.is_heard q (omega (arith, high, within))
        (lost (q + e.delay) (omega (arith, low, k.own_delay)) (omega (arith, high))).1 ∙ sent in
        let replied : sends_final o (q + e.delay) ≡ true =
        (k.other (q + e.delay) (omega (arith, high, within))).replies polled
        (co (q + e.delay) (omega (arith, low)) (omega (arith, high)))
        (co (q + e.delay + 1) (omega (arith, low)) (omega (arith, high, k.other_delay))) in
        let answered : hears_final e (q + e.delay + o.delay) ≡ true =
        is-heard is_final k.hears (q + e.delay) (omega (arith, high, within))
        (lost (q + e.delay + o.delay) (omega (arith, low, k.own_delay)) (omega (arith, high))).0 ∙ replied in grind (arith)

    go : (sends_poll e s ≡ true) ⊎ (sends_poll e (s + 1) ≡ true)
        → (u : ℕ) × (s + (e.delay + o.delay) ≤ u) × (u ≤ s + (e.delay + o.delay) + 1) × (hears_final e u ≡ true)
    go given = grind (arith, from)
