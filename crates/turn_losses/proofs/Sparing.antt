-- While an answerer's break waits, the originator isn't told to release.
use Rattle.turn_losses.proofs.Names.{◌⊎◌, inl, inr, ◌≡◌, ℕ, ◌+◌, ◌<◌, ◌≤◌, Bool, true, false, length, arith, refl, sym, ◌∙◌, ap, Ok, ◌≢◌}
use Rattle.turn_losses.proofs.Names.{◌-◌, ◌*◌, max, List, ◌∷◌, subst, cond, nat_lt, Originator, Answerer, ReadsWritten, waits, Arrived}
use Rattle.turn_losses.proofs.Names.{Account, is_connected, MayPlay, hear, cases_lt, Role, of, other, nat_tests, LinkFault, break_waits}
use Rattle.turn_losses.proofs.Names.{Phase, Releasing, Closed, User, is_released, is_closed, served_at, Detecting, Establishing, Accounts}
use Rattle.turn_losses.proofs.Names.{Turn, Hears, arrival, Carries, LosesSome, BrokenTurn, SpanLoses, IsStarved, turn_at, o-hears, is_begun}
use Rattle.turn_losses.proofs.Names.{of_frame, of_arrived, served_account, is_lost, clash, is-true, not-true, StandTogether, is-linked}
use Rattle.turn_losses.proofs.Names.{is_linked, TimedRun, end_of, EndRun, TwoEnds, PeriodLoses, GivesUpForLosses}
use Rattle.turn_bound.proofs.Serving.{serves-own}
use Rattle.turn_losses.proofs.PollHear.{linked-connected}
use Rattle.turn_losses.proofs.PeriodLaws.{two-ends, connected-since, is-heard, last-heard, linked-on}
use Rattle.turn_losses.proofs.Moving.{try-heard, asks, moves_on}
use Rattle.turn_losses.proofs.Parting.{told-at, connected-or, parted-each, all-but-last}
use Rattle.turn_losses.proofs.BreakHear.{break-heard}
use Rattle.turn_losses.proofs.View.{waits-are, deeds-of}
use Rattle.turn_losses.proofs.Tracing.{end-turn, last-turn, release_of, timed-run}
use Rattle.turn_losses.proofs.Kept.{kept-in, all-or-one}
use Rattle.turn_losses.proofs.Keeping.{turn-is}
use Rattle.turn_losses.proofs.Periods.{lost-is, later-turn, newest, times, once}
use Rattle.turn_losses.proofs.Phasing.{is_established, stays-established, begun-established}
use Rattle.turn_losses.proofs.Trying.{Tried, tried, tries-so, answers-so}
use Rattle.turn_losses.proofs.BreakTurn.{number_of}
use Rattle.turn_losses.proofs.Flight.{no-sabme-heard, only-establishing}
use Rattle.turn_losses.proofs.Waiting.{BreakPeriod}
use Rattle.turn_losses.proofs.Losing.{connected-loses, LastWait, periods-of, number-small, none-last, last-wait, originator-breaks}
use Rattle.turn_losses.proofs.Words.{ack_of, of_word}
use Rattle.turn_losses.proofs.Numbering.{Plays}
use Rattle.turn_losses.proofs.Wanting.{SpendsTries, LastTry, SpendsBreak, connected-spends, last-tries, originator-each, all-but-one}
use Rattle.turn_losses.proofs.Wanting.{answerer-each}
use Rattle.turn_losses.specs.Breaks.{GivesUpStarved}
use Rattle.turn_losses.proofs.InTurn.{InTurn}

-- no break is taken once the originator is told to release
no-take : (user : User) (turn : ℕ) (released : Bool) (mid : Account) → released ≡ true
    → (served_account user turn released mid).own_breaks ≡ mid.own_breaks
no-take user turn released mid e = grind (arith, serves-own)

-- so none waits from then on
unasked : (w : TimedRun) → (v : ℕ) → v < length w.ts → waits (served_at w.link v (w.deed v).mid Answerer).account.own_breaks ≡ false
    → (t : ℕ) → v < t → t ≤ length w.ts → ((u : ℕ) → v < u → u ≤ t → (w.state u).orig.phase ≡ Releasing)
    → is_linked (w.state (v + 1)).answ.phase ≡ true → is_connected (w.state t).answ.phase ≡ true → waits (w.state t).answ.own_breaks ≡ false
unasked w v l none t before b rel linked c = kept-in (λ u. waits (w.state u).answ.own_breaks ≡ false) (v + 1) t (omega (arith, before)) step
    (waits-are w Answerer v l (on (v + 1) (omega arith) (omega (arith, before))) ∙ none)
  where
    on : (u : ℕ) → v + 1 ≤ u → u ≤ t → is_connected (w.state u).answ.phase ≡ true
    on = connected-since (two-ends w Answerer) (v + 1) t b linked c

    step : (u : ℕ) → v + 1 ≤ u → u < t → waits (w.state u).answ.own_breaks ≡ false → waits (w.state (u + 1)).answ.own_breaks ≡ false
    step u lo hi f =
        let mid : Account = (w.deed u).mid.answ in
        let i = (end-turn w Originator u (omega (arith, hi, b))).in_turn in
        let g = end-turn w Answerer u (omega (arith, hi, b)) in
        let now = on (u + 1) (omega (arith, lo)) (omega (arith, hi)) in
        let released = (o-hears ((end_of w Originator).heard u) u (w.state u).orig (w.deed u).mid.orig i.role_is i.hears).released
        (ap is_released (rel u (omega (arith, lo)) (omega (arith, hi)))) in
        waits-are w Answerer u (omega (arith, hi, b)) now
        ∙ (ap waits (no-take w.link.answ.user u (is_released (w.deed u).mid.orig.phase) mid released)
        ∙ elim (break-heard ((end_of w Answerer).heard u) u (w.state u).answ mid
        (is-linked (w.state u).answ.phase (on u lo (omega (arith, hi)))) (g.connected now) g.in_turn.hears).own [
          | inl q ↦ ap waits q.0 ∙ f
          | inr x ↦ clash (waits (w.state u).answ.own_breaks) x.0 f
        ])

-- an originator that isn't Closed as it has heard wasn't before
unclosed : (arrived : Arrived) (turn : ℕ) (a mid : Account) → a.setup.role ≡ Originator → hear turn arrived a ≡ Ok mid
    → is_closed mid.phase ≡ false → a.phase ≡ Closed → mid.phase ≡ Releasing
unclosed arrived turn a mid r h n e = grind (arith, o-hears)

pub not-closed : (arrived : Arrived) (turn : ℕ) (a mid : Account) → a.setup.role ≡ Originator → hear turn arrived a ≡ Ok mid
    → is_closed mid.phase ≡ false → a.phase ≡ Closed → ⊥
not-closed arrived turn a mid r h n e = grind (arith, try-heard, unclosed)

-- Where the originator is linked as an answerer's break waits, it is Connected.
pub peer-connected : ReadsWritten → (w : TimedRun) → MayPlay w.link.orig.setup w.link.answ.setup → (u : ℕ) → u ≤ length w.ts
    → ((w.state u).orig.phase ≡ Closed → ⊥) → is_linked (w.state u).orig.phase ≡ true → is_connected (w.state u).answ.phase ≡ true
    → waits (w.state u).answ.own_breaks ≡ true → is_connected (w.state u).orig.phase ≡ true
peer-connected reads w m u b open-so l c wt = is-true (is_connected (w.state u).orig.phase)
    (λ e. elim (connected-or (w.state u).orig.phase l e) [ inl q ↦ told q | inr q ↦ open-so q ])
  where
    told : (w.state u).orig.phase ≡ Releasing → ⊥
    told e =
        let v = told-at reads w m u b e in
        let x = v.before in
        let g = end-turn w Answerer v.turn (omega (arith, x, b)) in
        clash (waits (w.state u).answ.own_breaks) wt (unasked w v.turn (omega (arith, x, b)) v.told.breaks u x b v.since
        (g.linked ∙ linked-connected (w.deed v.turn).mid.answ.phase (ap is_connected (sym g.in_turn.served.phase) ∙ v.told.connected)) c)

-- An answerer that gives up while its break waits was starved: one period is let off, that in which the originator becomes Connected.
pub of-period : (period : ℕ) (delay : Role → ℕ) (t : Turn) (ts : List Turn) (n : ℕ) → PeriodLoses period (length ts) (t ∷ ts) n
    → SpanLoses period (max (delay Originator) (delay Answerer)) (t ∷ ts) n
of-period period delay t ts n h = grind (arith)

max-second : (a b : ℕ) → b ≤ max a b
max-second a b = grind (arith)

connected-begun : (p : Phase) → is_connected p ≡ true → is_begun p ≡ true
connected-begun p e = grind (arith)

-- a span of the run with its last turn loses something
abbrev Loses : TimedRun → Turn → ℕ → Type 0
Loses w t n = SpanLoses w.period (max (w.delay Originator) (w.delay Answerer)) (t ∷ w.ts) n

-- the originator once it has heard, also in the last turn
abbrev heard_by : TimedRun → Accounts → ℕ → Account
heard_by w mid u = cond (nat_lt u (length w.ts)) (w.deed u).mid.orig mid.orig

heard-early : (w : TimedRun) (mid : Accounts) (u : ℕ) → u < length w.ts → heard_by w mid u ≡ (w.deed u).mid.orig
heard-early w mid u l = let b : nat_lt u (length w.ts) ≡ true = grind (arith, nat_tests, l) in grind (arith)

heard-last : (w : TimedRun) (mid : Accounts) → heard_by w mid (length w.ts) ≡ mid.orig
heard-last w mid = let b : nat_lt (length w.ts) (length w.ts) ≡ false = grind (arith, nat_tests) in grind (arith)

-- While the originator isn't linked up to its end, a period loses a SABME or a UA, or did so a delay before it.
unlinked-loses : ReadsWritten → (w : TimedRun) → MayPlay w.link.orig.setup w.link.answ.setup → (t : Turn) → Carries w.delay w.ts t
    → (mid : Accounts) → Hears (length w.ts) w.ends t mid → (s n : ℕ) → s + (n + 1) * w.period ≡ length w.ts
    → ((u : ℕ) → s < u → u ≤ s + w.period → is_connected (w.state u).answ.phase ≡ true)
    → is_linked (w.state (s + w.period)).orig.phase ≡ false → is_linked (heard_by w mid (s + w.period)).phase ≡ false → Loses w t n
unlinked-loses reads w may t cs mid hearing s n q answ un later = sabme (is_lost (w.deed u).turn.answ.heard) refl
  where
    turns : ℕ
    turns = length w.ts

    o : EndRun
    o = end_of w Originator

    e : EndRun
    e = end_of w Answerer

    k : TwoEnds w.period turns o e
    k = two-ends w Originator

    d : 1 ≤ o.delay
    d = k.own_delay

    long : 1 ≤ w.period
    long = omega (arith, k.period_is)

    within : s + w.period ≤ turns
    within = let m = once w.period n in omega (arith, q, m)

    est : (u : ℕ) → s < u → u ≤ s + w.period → (w.state u).orig.phase ≡ Establishing
    est u a b = only-establishing (w.state u).orig.phase (begun-established w u (omega (arith, b, within))
        (connected-begun (w.state u).answ.phase (answ u a b)))
        (not-true (is_linked (w.state u).orig.phase)
        (λ f. clash (is_linked (w.state (s + w.period)).orig.phase) (linked-on k u (s + w.period) b within f) un))

    x : ℕ
    x = s + w.period - (o.delay + e.delay)

    i : Tried w.period Establishing o (x + 1)
    i = tried w.period turns Establishing o long (tries-so reads w may Establishing refl)
        (λ f. let wrong : Detecting ≡ Establishing = ap (λ (y : Accounts). y.orig.phase) (sym w.trace.starts) ∙ f in cc) (x + 1)
        (omega (arith, within, k.period_is, d)) (est (x + 1) (omega (arith, k.period_is)) (omega (arith, k.period_is, d)))

    before-x : i.set ≤ x
    before-x = let b = i.before in omega (arith, b)

    u : ℕ
    u = i.set + o.delay

    u-in : u < turns
    u-in = omega (arith, before-x, within, k.period_is, k.other_delay)

    u-low : s < u + e.delay
    u-low = omega (arith, i.within, k.period_is)

    u-high : u + e.delay ≤ s + w.period
    u-high = omega (arith, before-x, k.period_is)

    u-phase : (w.state u).orig.phase ≡ Establishing
    u-phase = elim (cases_lt (x + 1) u) [
      | inl l ↦ est u (omega (arith, l, k.period_is)) (omega (arith, u-high))
      | inr g ↦ i.since u (omega (arith, d)) g
    ]

    -- a loss in a turn of the span
    loses : (y : ℕ) → s < y + e.delay → y ≤ s + w.period → LosesSome (turn_at y (t ∷ w.ts)) → Loses w t n
    loses y lo hi b = grind (arith, max-second)

    at : (y : ℕ) → (b : y < turns) → (r : Role) → is_lost (of r (w.deed y).turn).heard ≡ true → LosesSome (turn_at y (t ∷ w.ts))
    at y b r f = subst LosesSome (sym (later-turn y t w.ts b ∙ turn-is w y b)) (r, lost-is (of r (w.deed y).turn).heard f)

    v : ℕ
    v = u + e.delay

    -- where UA comes in that turn, the try doesn't go on
    stops : (arrived : Arrived) (after : Account) → hear v arrived (w.state v).orig ≡ Ok after
        → of_arrived (moves_on Establishing) arrived ≡ true → is_linked after.phase ≡ false → ⊥
    stops arrived after h comes f = elim (try-heard arrived v (w.state v).orig after (role-of v (omega (arith, u-high, within))) h
        Establishing refl
        (only-establishing after.phase (stays-established arrived v (w.state v).orig after h
        (ap is_established (est v (omega (arith, u-low)) u-high))) f)) [
          | inl y ↦ clash (of_arrived (moves_on Establishing) arrived) comes y.2
          | inr y ↦ y.0 (est v (omega (arith, u-low)) u-high)
        ]
      where
        role-of : (y : ℕ) → y ≤ turns → (w.state y).orig.setup.role ≡ Originator
        role-of y b = elim (cases_lt y turns) [
          | inl l ↦ (end-turn w Originator y l).in_turn.role_is
          | inr g ↦ subst (λ (c : Accounts). c.orig.setup.role ≡ Originator) (sym (ap w.state (omega (arith, b, g)) ∙ w.last))
              (last-turn w t mid hearing Originator).role_is
        ]

    sabme : (b : Bool) → is_lost (w.deed u).turn.answ.heard ≡ b → Loses w t n
    sabme true f = loses u u-low (omega (arith, u-high)) (at u u-in Answerer f)
    sabme false f = ua (cases_lt v turns)
      where
        answered : of_frame (moves_on Establishing) (e.slot u) ≡ true
        answered = answers-so reads w may Establishing refl u u-in u-phase (is-heard (asks Establishing) k.is_heard i.set u-in f ∙ i.sends)

        ua : (v < turns) ⊎ (turns ≤ v) → Loses w t n
        ua (inl l) = on (is_lost (w.deed v).turn.orig.heard) refl
          where
            unlinked : is_linked (w.deed v).mid.orig.phase ≡ false
            unlinked = elim (cases_lt v (s + w.period)) [
              | inl g ↦ sym (end-turn w Originator v l).linked ∙ ap is_linked (est (v + 1) (omega (arith, u-low)) (omega (arith, g)))
              | inr g ↦ ap (λ (c : Account). is_linked c.phase) (sym (heard-early w mid v l))
                  ∙ (ap (λ y. is_linked (heard_by w mid y).phase) (omega (arith, g, u-high)) ∙ later)
            ]

            on : (b : Bool) → is_lost (w.deed v).turn.orig.heard ≡ b → Loses w t n
            on true g = loses v (omega (arith, u-low)) u-high (at v l Originator g)
            on false g = absurd (stops (o.heard v) (o.mid v) (end-turn w Originator v l).in_turn.hears
                (is-heard (moves_on Establishing) k.hears u l g ∙ answered) unlinked)
        ua (inr g) = on (is_lost t.orig.heard) refl
          where
            v-is : v ≡ turns
            v-is = omega (arith, g, u-high, within)

            on : (b : Bool) → is_lost t.orig.heard ≡ b → Loses w t n
            on true f' = loses turns (omega (arith, u-low, v-is)) (omega (arith, u-high, v-is))
                (subst LosesSome (sym (newest t w.ts)) (Originator, lost-is t.orig.heard f'))
            on false f' = absurd (stops (arrival t.orig.heard) mid.orig
                (subst (λ (c : Accounts). hear v (arrival t.orig.heard) c.orig ≡ Ok mid.orig) (sym (ap w.state v-is ∙ w.last))
                (ap (λ y. hear y (arrival t.orig.heard) w.ends.orig) v-is ∙ (hearing Originator).hears))
                (last-heard (moves_on Establishing) w t cs Originator u v-is f' ∙ answered)
                (ap (λ (c : Account). is_linked c.phase) (sym (heard-last w mid))
                ∙ (ap (λ y. is_linked (heard_by w mid y).phase) (omega (arith, g, u-high, within)) ∙ later)))

-- whether the originator becomes Connected in a period: it isn't before, and is after
record Joins (w : TimedRun) (mid : Accounts) (n : ℕ) : Type 0 where
  pub start : ℕ
  pub number : start + (n + 1) * w.period ≡ length w.ts
  pub before : is_linked (w.state (start + 1)).orig.phase ≡ false
  pub after : is_linked (heard_by w mid (start + w.period)).phase ≡ true

-- in one period at most
one-joins : (w : TimedRun) (mid : Accounts) (n m : ℕ) → n < m → Joins w mid n → Joins w mid m → ⊥
one-joins w mid n m less a b =
    let k = two-ends w Originator in
    let p = k.period_is in
    let x = a.number in let y = b.number in
    let more = times w.period (n + 2) (m + 1) (omega (arith, less)) in
    let two = twice w.period n in
    let one = once w.period n in
    let low : b.start + w.period ≤ a.start = omega (arith, x, y, more, two, one) in
    let inside : b.start + w.period < length w.ts = omega (arith, low, x, one, p) in
    clash (is_linked (w.state (a.start + 1)).orig.phase)
    (linked-on k (b.start + w.period + 1) (a.start + 1) (omega (arith, low))
    (omega (arith, x, one, p)) ((end-turn w Originator (b.start + w.period) inside).linked
    ∙ (ap (λ (c : Account). is_linked c.phase) (sym (heard-early w mid (b.start + w.period) inside)) ∙ b.after))) a.before
  where
    twice : (q j : ℕ) → (j + 2) * q ≡ (j + 1) * q + q
    twice q j = grind (arith)

pub answerer-breaks : ReadsWritten → (w : TimedRun) → MayPlay w.link.orig.setup w.link.answ.setup → (t : Turn) (mid : Accounts)
    → Carries w.delay w.ts t → Hears (length w.ts) w.ends t mid → is_closed mid.orig.phase ≡ false → is_connected mid.answ.phase ≡ true
    → LastWait w.tries w.period (length w.ts) w.ends.answ → waits (served_at w.link (length w.ts) mid Answerer).account.own_breaks ≡ true
    → IsStarved w.tries w.period w.delay (t ∷ w.ts)
answerer-breaks reads w may t mid cs hearing going cm l waiting = elim (all-or-one (Loses w t) (Joins w mid) (w.tries + 1) one-period) [
  | inl f ↦ record { spared = w.tries + 1; each = λ n few other. f n (omega (arith, few)) }
  | inr x ↦ record { spared = x.0; each = λ n few other. but x.0 x.2 n other (one-period n (omega (arith, few))) }
]
  where
    turns : ℕ
    turns = length w.ts

    last : LastWait w.tries w.period turns (w.state turns).answ
    last = subst (λ (x : Accounts). LastWait w.tries w.period turns x.answ) (sym w.last) l

    o : EndRun
    o = end_of w Originator

    e : EndRun
    e = end_of w Answerer

    k : TwoEnds w.period turns o e
    k = two-ends w Originator

    -- the originator is Closed at no time
    open-at : (u : ℕ) → u ≤ turns → (w.state u).orig.phase ≡ Closed → ⊥
    open-at u b f = elim (cases_lt u turns) [
      | inl y ↦ (let i = (end-turn w Originator u y).in_turn in
          not-closed (o.heard u) u (o.account u) (o.mid u) i.role_is i.hears (w.trace.happens u y).going f)
      | inr y ↦ not-closed (arrival t.orig.heard) turns w.ends.orig mid.orig (last-turn w t mid hearing Originator).role_is
          (hearing Originator).hears going
          (ap (λ (x : Accounts). x.orig.phase) (sym w.last) ∙ (ap (λ x. (w.state x).orig.phase) (omega (arith, b, y)) ∙ f))
    ]

    -- the originator that was linked is so once it has heard
    linked-heard : (u : ℕ) → u ≤ turns → is_linked (w.state u).orig.phase ≡ true → is_linked (heard_by w mid u).phase ≡ true
    linked-heard u b f = elim (cases_lt u turns) [
      | inl y ↦ ap (λ (c : Account). is_linked c.phase) (heard-early w mid u y) ∙ (end-turn w Originator u y).in_turn.polls.linked f
      | inr y ↦ (let same : u ≡ turns = omega (arith, b, y) in
          ap (λ x. is_linked (heard_by w mid x).phase) same ∙ (ap (λ (c : Account). is_linked c.phase) (heard-last w mid)
          ∙ (last-turn w t mid hearing Originator).polls.linked
          (ap (λ (x : Accounts). is_linked x.orig.phase) (sym (ap w.state same ∙ w.last)) ∙ f)))
    ]

    one-period : (n : ℕ) → n < w.tries + 1 → Loses w t n ⊎ Joins w mid n
    one-period n less = at (periods-of w Answerer last n less)
      where
        at : (s : ℕ) × (s + (n + 1) * w.period ≡ turns) × BreakPeriod w.period turns (number_of (w.state turns).answ) e
            (deeds-of w Answerer) s → Loses w t n ⊎ Joins w mid n
        at (s, q, bp) = by (is_linked (w.state (s + 1)).orig.phase) refl (is_linked (heard_by w mid (s + w.period)).phase) refl
          where
            within : s + w.period ≤ turns
            within = let m = once w.period n in omega (arith, q, m)

            by : (b : Bool) → is_linked (w.state (s + 1)).orig.phase ≡ b
                → (c : Bool) → is_linked (heard_by w mid (s + w.period)).phase ≡ c → Loses w t n ⊎ Joins w mid n
            by true f c g = inl (of-period w.period w.delay t w.ts n (connected-loses w t cs Answerer
                (number_of (w.state turns).answ) s n (number-small (w.state turns).answ.own_breaks.answered) q bp
                (λ u a b. let x = bp.stays u a b in peer-connected reads w may
                u (omega (arith, b, within)) (open-at u (omega (arith, b, within)))
                (linked-on k (s + 1) u (omega (arith, a)) (omega (arith, b, within)) f) x.connected x.waiting)
                (λ u a b g. no-sabme-heard reads w may s (omega (arith, within, k.period_is)) f u a (omega (arith, b, within)) g)
                (λ g h. none-last w.link w.ts w.ends t mid Answerer w.tries w.period hearing cm l waiting
                (ap (λ (x : Accounts). of_arrived (of_word (ack_of (number_of x.answ))) (arrival t.answ.heard)) (sym w.last) ∙ h))))
            by false f true g = inr (record { start = s; number = q; before = f; after = g })
            by false f false g = inl (unlinked-loses reads w may t cs mid hearing s n q (λ u x y. (bp.stays u x y).connected)
                (not-true (is_linked (w.state (s + w.period)).orig.phase)
                (λ y. clash (is_linked (heard_by w mid (s + w.period)).phase) (linked-heard (s + w.period) within y) g)) g)

    -- all but the one that is let off
    but : (m : ℕ) → Joins w mid m → (n : ℕ) → n ≢ m → Loses w t n ⊎ Joins w mid n → Loses w t n
    but m joins n other (inl x) = x
    but m joins n other (inr x) = elim (cases_lt n m) [
      | inl z ↦ absurd (one-joins w mid n m z x joins)
      | inr z ↦ elim (cases_lt m n) [ inl y ↦ absurd (one-joins w mid m n y joins x) | inr y ↦ absurd (other (omega (arith, z, y))) ]
    ]

-- Whatever an end gives up for, the run was starved.
pub record Base : Type 0 where
  pub plays : Plays
  pub together : StandTogether
  pub reads : ReadsWritten
  pub quiet : GivesUpForLosses

only-releasing : (q : Phase) → is_released q ≡ true → is_closed q ≡ false → q ≡ Releasing
only-releasing p g h = grind (arith)

waiting-is : (c w : Bool) → cond c w false ≡ true → (c ≡ true) × (w ≡ true)
waiting-is b w e = grind (arith)

pub gives-up-starved : Base → GivesUpStarved
gives-up-starved laws tries period delay link ts before t mid role fault kt run cs broken = by (break_waits b) refl
  where
    turns : ℕ
    turns = length ts

    b : Account
    b = (served_at link turns mid role).account

    by : (x : Bool) → break_waits b ≡ x → IsStarved tries period delay (t ∷ ts)
    by false q = (laws.quiet tries period delay link ts before t mid role fault kt run cs broken q).starved
    by true q = go role fault broken (waiting-is (is_connected b.phase) (waits b.own_breaks) q)
      where
        whole : TimedRun
        whole = timed-run tries period delay link ts before kt run.run run.carried

        at : (r : Role) → InTurn tries period link r turns (of r before) (arrival (of r t).heard) (of r mid)
            (served_at link turns mid r).account
        at = last-turn whole t mid broken.hearing

        long : (r : Role) → 1 ≤ (served_at link turns mid r).account.setup.period
        long r = let i = at r in omega (arith, i.b_period, i.long)

        mid-connected : (r : Role) → is_connected (served_at link turns mid r).account.phase ≡ true → is_connected (of r mid).phase ≡ true
        mid-connected r c = ap is_connected (sym (at r).served.phase) ∙ c

        try-of : (r : Role) → is_connected (of r mid).phase ≡ true → SpendsTries turns (served_at link turns mid r).account
            → LastTry tries period turns (of r before)
        try-of = last-tries laws.plays whole run.may_play t mid broken.hearing

        wait-of : (r : Role) → is_connected (of r mid).phase ≡ true → SpendsBreak turns (served_at link turns mid r).account
            → LastWait tries period turns (of r before)
        wait-of r = last-wait (at r)

        orig : is_connected mid.orig.phase ≡ true → waits (served_at link turns mid Originator).account.own_breaks ≡ true
            → SpendsTries turns (served_at link turns mid Originator).account ⊎ SpendsBreak turns
            (served_at link turns mid Originator).account → IsStarved tries period delay (t ∷ ts)
        orig cm w (inl s) = all-but-one tries period delay t ts
            (originator-each laws.plays laws.together whole run.may_play (try-of Originator cm s))
        orig cm w (inr s) =
            let each = originator-breaks laws.together whole t mid cs broken.hearing cm
            (wait-of Originator cm s) w in
            record { spared = tries + 1; each = λ n few other. of-period period delay t ts n (each n (omega (arith, few))) }

        answ : is_connected mid.answ.phase ≡ true → waits (served_at link turns mid Answerer).account.own_breaks ≡ true
            → SpendsTries turns (served_at link turns mid Answerer).account ⊎ SpendsBreak turns
            (served_at link turns mid Answerer).account → IsStarved tries period delay (t ∷ ts)
        answ cm w (inl s) = on (is_released mid.orig.phase) refl
          where
            on : (x : Bool) → is_released mid.orig.phase ≡ x → IsStarved tries period delay (t ∷ ts)
            on false f = all-but-one tries period delay t ts
                (answerer-each laws.plays whole run.may_play t mid broken.hearing f (try-of Answerer cm s))
            on true f = all-but-last tries period delay t ts
                (parted-each laws.plays laws.reads whole run.may_play t mid cs broken.hearing cm
                (only-releasing mid.orig.phase f broken.going) (try-of Answerer cm s))
        answ cm w (inr s) = answerer-breaks laws.reads whole run.may_play t mid cs broken.hearing broken.going cm (wait-of Answerer cm s) w

        go : (r : Role) (f : LinkFault) → BrokenTurn link ts before t mid r f
            → (is_connected (served_at link turns mid r).account.phase ≡ true)
            × (waits (served_at link turns mid r).account.own_breaks ≡ true) → IsStarved tries period delay (t ∷ ts)
        go Originator f x (c, w) = orig (mid-connected Originator c) w
            (connected-spends turns (release_of link turns mid Originator) (served_at link turns mid Originator).account f
            (is-linked (served_at link turns mid Originator).account.phase c) (long Originator) x.broken)
        go Answerer f x (c, w) = answ (mid-connected Answerer c) w
            (connected-spends turns false (served_at link turns mid Answerer).account f
            (is-linked (served_at link turns mid Answerer).account.phase c) (long Answerer) x.broken.1)
