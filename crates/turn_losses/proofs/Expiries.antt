use Rattle.turn_losses.proofs.Names.{◌⊎◌, inl, inr, ◌≡◌, ℕ, zero, suc, ◌+◌, ◌<◌, ◌≤◌, Bool, true, false, arith, refl, sym, ◌∙◌, ap, Some}
use Rattle.turn_losses.proofs.Names.{length, ◌%◌, ◌-◌, ◌*◌, subst, cases_lt, Account, is_connected, Said, Role, of, served_at, and-not}
use Rattle.turn_losses.proofs.Names.{past, Happens, EndRun, TwoEnds, hears_final, TimedRun, end_of, is_linked, PollTurn, hears_poll}
use Rattle.turn_losses.proofs.Trace.{SendsSegment, AnswerTurn}
use Rattle.turn_losses.proofs.PeriodLaws.{Answers, StillAwaited, two-ends, reply-matches, SetSince, set-since, still-awaited, answer-comes}
use Rattle.turn_losses.proofs.PeriodLaws.{NoneLost, StayConnected}
use Rattle.turn_losses.proofs.NumberHear.{ns_sent}
use Rattle.turn_losses.proofs.Acknowledged.{Counts, acknowledged}
use Rattle.turn_losses.proofs.Clocks.{Ticked, chain}
use Rattle.turn_losses.proofs.Clocks.Ticked.{Begins, Expires, Stays}

-- while the answer to a poll is on its way, the clock doesn't expire
pub unexpired : {period turns : ℕ} {e o : EndRun} → TwoEnds period turns e o → (t : ℕ) → t < turns → is_connected (e.account t).phase ≡ true
    → hears_final e t ≡ true → (r : ℕ) → (e.account t).wait.timer ≡ Some r → t < r + period
unexpired {period} {turns} {e} {o} k t within c h r w =
    let m : Answers t e o = reply-matches k t within h in
    let trip = m.round_trip in let before = m.due_before in let soon = m.due_soon in let p = k.period_is in let d = k.own_delay in
    let s : SetSince m.due (e.account t) =
    set-since k m.due m.made t
    (omega (arith, trip, before, d)) (omega (arith, within)) in
    let set : m.due ≤ r = s.set c r w in omega (arith, set, trip, soon, p)

-- In the turn in which the answer to its poll is heard, an end's retry count is 0 once it has heard, or it sends the first segment that
-- isn't acknowledged.
pub poll-answered : {period turns : ℕ} {e o : EndRun} → TwoEnds period turns e o → (t : ℕ) → t < turns
    → is_connected (e.account t).phase ≡ true → hears_final e t ≡ true
    → (mid b : Account) (said : Said) → e.account (t + 1) ≡ said.account → is_connected (e.account (t + 1)).phase ≡ true
    → AnswerTurn period t (e.heard t) (e.account t) mid b said → (mid.outgoing.count ≡ 0) ⊎ SendsSegment mid.outgoing.front b said
poll-answered {period} {turns} {e} {o} k t within c h mid b said after c' answers =
    let s : StillAwaited (e.account t) = still-awaited k t within c h in
    answers c s.awaited (and-not (is_connected (e.account t).phase) (e.account t).wait.poll c s.none_due) h
    (ap (λ a. is_connected a.phase) (sym after) ∙ c') (unexpired k t within c h)

-- in a turn of a run an end's retry count is 0 once it has heard, or it sends the first segment that isn't acknowledged
abbrev pub SendsFirst : (w : TimedRun) → Role → ℕ → Type 0
SendsFirst w role t =
    (l : t < length w.ts) × SendsSegment (of role (w.deed t).mid).outgoing.front (served_at w.link t (w.deed t).mid role).account
    ((w.trace.happens t l).speaking role).said

pub end-answered : (w : TimedRun) → (role : Role) → (t : ℕ) → t < length w.ts → is_connected (of role (w.state t)).phase ≡ true
    → is_connected (of role (w.state (t + 1))).phase ≡ true → hears_final (end_of w role) t ≡ true
    → ((of role (w.deed t).mid).outgoing.count ≡ 0) ⊎ SendsFirst w role t
end-answered w role t within c c' h =
    let g : Happens w.period w.delay w.link (past w.ts t) t (w.state t) (w.deed t) (w.state (t + 1)) = w.trace.happens t within in
    elim (poll-answered
    (two-ends w role) t within c h (of role (w.deed t).mid)
    (served_at w.link t (w.deed t).mid role).account (g.speaking role).said (g.speaking role).after_is c' (g.answers role)) [
      | inl x ↦
          inl x
      | inr y ↦ inr (within, y)
    ]

-- A period that an expiry begins, at two ends that stay Connected: where no line is lost in it the retry count is 0 in one of its turns.
pub period-cleared : {period turns : ℕ} {e o : EndRun} → TwoEnds period turns e o → Counts turns e o → (s : ℕ) → s + period ≤ turns
    → e.made s ≡ true
    → StayConnected e s (s + period) → StayConnected o s (s + period) → NoneLost e o (s + 1) (period - 1)
    → (v : ℕ) × (s < v) × (v < s + period) × (e.count v ≡ 0)
period-cleared {period} {turns} {e} {o} k c s within m ce co lost =
    go (answer-comes k s (omega (arith, k.period_is, within)) m (λ t l g. ce t l (omega (arith, g, k.period_is)))
    (λ t l g. co t l (omega (arith, g, k.period_is))) (λ t l g. lost t l (omega (arith, g, k.period_is))))
  where
    go : (u : ℕ) × (s + (e.delay + o.delay) ≤ u) × (u ≤ s + (e.delay + o.delay) + 1) × (hears_final e u ≡ true)
        → (v : ℕ) × (s < v) × (v < s + period) × (e.count v ≡ 0)
    go (u, low, high, h) =
        either (c.answered u (omega (arith, k.period_is, high, within)) (ce u (omega (arith, low)) (omega (arith, high, k.period_is)))
        (ce (u + 1) (omega (arith, low)) (omega (arith, high, k.period_is))) h)
      where
        later : (v : ℕ) × (u < v) × (v ≤ u + (e.delay + o.delay) + 1) × ((e.mid v).outgoing.count ≡ 0)
            → (v : ℕ) × (s < v) × (v < s + period) × (e.count v ≡ 0)
        later (v, x, y, z) = (v, omega (arith, x, low), omega (arith, y, high, k.period_is), c.count_is v ∙ z)

        either : (e.count u ≡ 0) ⊎ (ns_sent (e.slot u) ≡ Some ((e.mid u).outgoing.front % 128))
            → (v : ℕ) × (s < v) × (v < s + period) × (e.count v ≡ 0)
        either (inl x) = (u, omega (arith, low, k.own_delay), omega (arith, high, k.period_is), x)
        either (inr x) = later (acknowledged k c u (omega (arith, high, k.period_is, within)) h x
            (λ t l g. ce t (omega (arith, l, low)) (omega (arith, g, high, k.period_is)))
            (λ t l g. co t (omega (arith, l, low)) (omega (arith, g, high, k.period_is)))
            (λ t l g. lost t (omega (arith, l, low)) (omega (arith, g, high, k.period_is))))

-- a line is lost in one of these turns
pub record LostIn (e o : EndRun) (from count : ℕ) : Type 0 where
  pub turn : ℕ
  pub low : from ≤ turn
  pub high : turn < from + count
  pub loses : (e.loses turn ≡ true) ⊎ (o.loses turn ≡ true)

pub lost-or-none : (e o : EndRun) (from count : ℕ) → LostIn e o from count ⊎ NoneLost e o from count
lost-or-none e o from zero = inr (λ t l g. let wrong : ⊥ = omega (arith, l, g) in absurd wrong)
lost-or-none e o from (suc n) = elim (lost-or-none e o from n) [
  | inl x ↦ (let l = x.low in let h = x.high in inl (record { turn = x.turn; low = l; high = omega (arith, h); loses = x.loses }))
  | inr h ↦ at h (e.loses (from + n)) (o.loses (from + n)) refl refl
]
  where
    at : NoneLost e o from n → (x y : Bool) → e.loses (from + n) ≡ x → o.loses (from + n) ≡ y
        → LostIn e o from (suc n) ⊎ NoneLost e o from (suc n)
    at h true y q r = inl (record { turn = from + n; low = omega arith; high = omega arith; loses = inl q })
    at h false true q r = inl (record { turn = from + n; low = omega arith; high = omega arith; loses = inr r })
    at h false false q r = inr (λ t l g. elim (cases_lt t (from + n)) [ inl x ↦ h t l x | inr y ↦ same t (omega (arith, y, g)) ])
      where
        same : (t : ℕ) → t ≡ from + n → (e.loses t ≡ false) × (o.loses t ≡ false)
        same t w = (ap e.loses w ∙ q, ap o.loses w ∙ r)

-- A line is lost in each such period in which the retry count never is 0.
pub period-loses : {period turns : ℕ} {e o : EndRun} → TwoEnds period turns e o → Counts turns e o → (s : ℕ) → s + period ≤ turns
    → e.made s ≡ true
    → StayConnected e s (s + period) → StayConnected o s (s + period) → ((v : ℕ) → s < v → v < s + period → e.count v ≡ 0 → ⊥)
    → LostIn e o (s + 1) (period - 1)
period-loses {period} {turns} {e} {o} k c s within m ce co none = elim (lost-or-none e o (s + 1) (period - 1)) [
  | inl x ↦ x
  | inr h ↦ (let v = period-cleared k c s within m ce co h in absurd (none v.0 v.1 v.2 v.3))
]

-- The polls of an end as a clock: it runs from the first expiry on that no acknowledgement follows, while the retry count isn't 0.
abbrev Polls : EndRun → ℕ → Type 0
Polls e u = (is_connected (e.account u).phase ≡ true) × (n : ℕ) × ((e.account u).outgoing.count ≡ n + 1)

abbrev Uncounted : EndRun → ℕ → Type 0
Uncounted e v = e.count v ≡ 0 → ⊥

abbrev Expired : EndRun → ℕ → Type 0
Expired e s = (e.made s ≡ true) × (is_connected (e.account s).phase ≡ true)

abbrev IsTimed : EndRun → ℕ → ℕ → Type 0
IsTimed e u s = (e.account u).wait.timer ≡ Some s

abbrev expiries_of : EndRun → ℕ → ℕ
expiries_of e u = (e.account u).outgoing.count - 1

ticks : (period turns : ℕ) (e o : EndRun) → TwoEnds period turns e o → Counts turns e o → (t : ℕ) → t < turns → Polls e (t + 1)
    → Ticked period t (Polls e) (Uncounted e) (Expired e) (IsTimed e) (expiries_of e)
ticks period turns e o k c t l (now, n, q) = go (is_linked (e.account t).phase) refl
  where
    w : PollTurn period t e.role (hears_poll e t) (hears_final e t) (e.made t) (e.count t) (e.slot t) (e.account t) (e.account (t + 1))
    w = k.own t l

    go : (b : Bool) → is_linked (e.account t).phase ≡ b → Ticked period t (Polls e) (Uncounted e) (Expired e) (IsTimed e) (expiries_of e)
    go false f = let z = c.begins t l f now in absurd (omega (arith, z, q))
    go true f = by n q (w.counted x now n q)
      where
        x : is_connected (e.account t).phase ≡ true
        x = (w.timer now f).0

        was : (m : ℕ) → e.count t ≡ m + 1 → (e.account t).outgoing.count ≡ m + 1
        was m r = elim (w.kept x) [ inl z ↦ absurd (omega (arith, z, r)) | inr z ↦ sym z ∙ r ]

        by : (m : ℕ) → (e.account (t + 1)).outgoing.count ≡ m + 1
            → ((e.made t ≡ true) × (e.count t ≡ m) × ((e.account (t + 1)).wait.timer ≡ Some t))
            ⊎ ((e.made t ≡ false) × (e.count t ≡ m + 1)
            × ((r : ℕ) → (e.account t).wait.timer ≡ Some r → (e.account (t + 1)).wait.timer ≡ Some r))
            → Ticked period t (Polls e) (Uncounted e) (Expired e) (IsTimed e) (expiries_of e)
        by zero r (inl (m, y, s)) = Begins s (omega (arith, r)) (m, x)
        by (suc i) r (inl (m, y, s)) =
            let b = was i (omega (arith, y)) in let d = w.made_from m f in
            Expires d.1 (x, i, b) d.2 (sym d.3) s (λ j g. omega (arith, g, r, b)) (m, x)
        by i r (inr (m, y, s)) = let b = was i y in Stays (x, i, b) s (λ j g. omega (arith, g, r, b)) (λ z. omega (arith, z, y))

-- An expiry, and its period: in none of its turns the retry count is 0 once the end has heard.
pub record Uncleared (period : ℕ) (e : EndRun) (s : ℕ) : Type 0 where
  pub made : e.made s ≡ true
  pub connected : is_connected (e.account s).phase ≡ true
  pub on : StayConnected e s (s + period)
  pub timer : (u : ℕ) → s < u → u ≤ s + period → (e.account u).wait.timer ≡ Some s
  pub uncleared : (v : ℕ) → s < v → v < s + period → e.count v ≡ 0 → ⊥

-- So it is with the latest expiries before one, as many as the retry count says.
pub expiries : {period turns : ℕ} {e o : EndRun} → TwoEnds period turns e o → Counts turns e o → (n set : ℕ)
    → is_connected (e.account turns).phase ≡ true → (e.account turns).outgoing.count ≡ n → (e.account turns).wait.timer ≡ Some set
    → turns ≡ set + period → (j : ℕ) → j < n → (s : ℕ) × (s + (j + 1) * period ≡ turns) × Uncleared period e s
expiries {period} {turns} {e} {o} k c zero set h q w due j less = absurd (omega (arith, less))
expiries {period} {turns} {e} {o} k c (suc n) set h q w due j less =
    let x = chain period turns (Polls e) (Uncounted e) (Expired e) (IsTimed e) (expiries_of e) (λ u s r a b. cc)
    (λ z. let wrong : true ≡ false = sym z.0 ∙ c.not_first in cc) (ticks period turns e o k c) n turns set (omega arith)
    (h, n, omega (arith, q)) (omega (arith, q)) w (sym due) j (omega (arith, less)) in
    let a = x.2.asked in (
      x.0,
      x.1,
      record {
        made = a.0;
        connected = a.1;
        on = λ u lo hi. elim (cases_lt x.0 u) [
          | inl y ↦ (x.2.ran u y hi).0
          | inr y ↦ subst (λ v. is_connected (e.account v).phase ≡ true) (omega (arith, lo, y)) a.1
        ];
        timer = x.2.set;
        uncleared = x.2.stayed;
      },
    )
