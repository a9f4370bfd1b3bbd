-- What is lost in each period of a waiting break, while the other end is Connected.
use Rattle.turn_losses.proofs.Names.{◌⊎◌, inl, inr, ◌≡◌, ℕ, ◌+◌, ◌-◌, ◌*◌, ◌<◌, ◌≤◌, Bool, true, false, ◌∷◌, length, arith, refl, sym, ◌∙◌}
use Rattle.turn_losses.proofs.Names.{ap, Ok, ◌%◌, List, subst, cases_lt, nat_tests, Role, other, of, waits, Arrived, Account, is_connected}
use Rattle.turn_losses.proofs.Names.{hear, Originator, Answerer, User, Turn, arrival, Carries, Link, Accounts, Hears, served_at, of_frame}
use Rattle.turn_losses.proofs.Names.{of_arrived, served_account, serves-all, is_lost, clash, not-true, unlinked-of, rates, is-linked}
use Rattle.turn_losses.proofs.Names.{StandTogether, EndRun, TwoEnds, TimedRun, end_of, is_linked, PeriodLoses, LosesEach}
use Rattle.turn_losses.proofs.Periods.{once, loses-at, loses-last}
use Rattle.turn_losses.proofs.PeriodLaws.{is-heard, was-sent, last-heard, two-ends, NoneLost}
use Rattle.turn_losses.proofs.Expiries.{LostIn, lost-or-none}
use Rattle.turn_losses.proofs.Establishing.{is_sabme}
use Rattle.turn_losses.proofs.BreakHear.{answered_own, break-heard, Unanswered, old-heard}
use Rattle.turn_losses.proofs.BreakTurn.{waits-not, wait-ends, served-own, Deeds, number_of, brk_due}
use Rattle.turn_losses.proofs.View.{deeds-of, breaking}
use Rattle.turn_losses.proofs.Waiting.{BreakPeriod, break-answered, break-periods}
use Rattle.turn_losses.proofs.Flight.{answers-sabme, sends-sabme-so, answ-no-sabme}
use Rattle.turn_losses.proofs.Words.{ack_of, of_word}
use Rattle.turn_losses.proofs.Tracing.{starts-fresh}
use Rattle.turn_losses.proofs.Wanting.{SpendsBreak, peer-connected-at}
use Rattle.turn_losses.proofs.InTurn.{InTurn}

-- the answer in the last turn ends the wait
pub last-ends : (user : User) (turn : ℕ) (released : Bool) (arrived : Arrived) (a mid : Account) → is_connected a.phase ≡ true
    → is_connected mid.phase ≡ true → waits a.own_breaks ≡ true → length a.own_breaks.lengths ≤ a.own_breaks.answered + 1
    → hear turn arrived a ≡ Ok mid → of_arrived (of_word (ack_of (number_of a))) arrived ≡ true
    → waits (served_account user turn released mid).own_breaks ≡ false
last-ends user turn released arrived a mid ca cm w high h e = elim (break-heard arrived turn a mid (is-linked a.phase ca) cm h).own [
  | inl x ↦ clash (of_arrived (of_word (ack_of (number_of a))) arrived) e (x.1 w)
  | inr x ↦ by x.1
]
  where
    b : Account
    b = served_account user turn released mid

    by : mid.own_breaks ≡ answered_own turn a.own_breaks → waits (served_account user turn released mid).own_breaks ≡ false
    by q =
        let more : a.own_breaks.answered < length a.own_breaks.lengths = grind (arith, nat_tests, w) in
        let n = ap (λ o. o.answered) q in let l = ap (λ o. length o.lengths) q in
        elim (served-own _ _ _ mid b (serves-all user turn released mid) (omega (arith, n, l, more))) [
          | inl s ↦ ap waits (s ∙ q) ∙ waits-not (answered_own turn a.own_breaks) (omega (arith, high))
          | inr k ↦ (let r = k.rested in let z = ap (λ o. o.rest) q in absurd (omega (arith, r, z)))
        ]

-- A period of a waiting break loses something, while the other end is Connected in it.
pub connected-loses : (w : TimedRun) (t : Turn) → Carries w.delay w.ts t → (r : Role) → (number s n : ℕ) → number < 2
    → s + (n + 1) * w.period ≡ length w.ts
    → BreakPeriod w.period (length w.ts) number (end_of w r) (deeds-of w r) s
    → ((u : ℕ) → s < u → u ≤ s + w.period → is_connected (of (other r) (w.state u)).phase ≡ true)
    → ((u : ℕ) → s ≤ u → u < s + w.period → of_arrived is_sabme (arrival (of r (w.deed u).turn).heard) ≡ true → ⊥)
    → (s + w.period ≡ length w.ts → of_arrived (of_word (ack_of number)) (arrival (of r t).heard) ≡ true → ⊥)
    → PeriodLoses w.period (length w.ts) (t ∷ w.ts) n
connected-loses w t cs r number s n small q bp co na last-no = go (lost-or-none e o (s + 1) (w.period - 1))
  where
    turns : ℕ
    turns = length w.ts

    e : EndRun
    e = end_of w r

    o : EndRun
    o = end_of w (other r)

    k : TwoEnds w.period turns e o
    k = two-ends w r

    d : ℕ → Deeds
    d = deeds-of w r

    d' : ℕ → Deeds
    d' = deeds-of w (other r)

    long : 1 ≤ w.period
    long = omega (arith, k.period_is)

    within : s + w.period ≤ turns
    within = let x = once w.period n in omega (arith, q, x)

    quiet : (u : ℕ) → s ≤ u → u < s + w.period → (d u).answers ≡ false
    quiet u a b = not-true (d u).answers (λ f. na u a b (answers-sabme w r u (omega (arith, b, within))
        (bp.stays (u + 1) (omega (arith, a)) (omega (arith, b))).connected f))

    quiet' : (u : ℕ) → s + e.delay ≤ u → u < s + w.period → (d' u).answers ≡ false
    quiet' u a b = not-true (d' u).answers (λ f.
        let heard = answers-sabme w (other r) u (omega (arith, b, within))
        (co (u + 1) (omega (arith, a)) (omega (arith, b))) f in
        let c = was-sent is_sabme k.is_heard u (omega (arith, b, within)) heard in
        let v : ℕ = u - e.delay in
        clash (is_connected (e.account (v + 1)).phase) (bp.stays (v + 1) (omega (arith, a)) (omega (arith, a, b, k.own_delay))).connected
        (sends-sabme-so w r v (omega (arith, b, within)) c.1))

    some : (u : ℕ) → s < u → u ≤ s + w.period → u < turns → (e.loses u ≡ true) ⊎ (o.loses u ≡ true)
        → PeriodLoses w.period turns (t ∷ w.ts) n
    some u a b c (inl f) = loses-at w t s n q u a b c r f
    some u a b c (inr f) = loses-at w t s n q u a b c (other r) f

    go : LostIn e o (s + 1) (w.period - 1) ⊎ NoneLost e o (s + 1) (w.period - 1) → PeriodLoses w.period turns (t ∷ w.ts) n
    go (inl x) = let a = x.low in let b = x.high in some x.turn (omega (arith, a)) (omega (arith, b, long))
        (omega (arith, b, long, within)) x.loses
    go (inr none) = late (break-answered number k (breaking w r) (breaking w (other r)) first small s within bp co quiet quiet' none)
      where
        first : brk_due (o.account 0) ≡ false
        first = ap brk_due (starts-fresh w (other r))

        late : (z : ℕ) × (z + o.delay ≡ s + w.period) × (s < z) × (of_frame (of_word (ack_of number)) (o.slot z) ≡ true)
            → PeriodLoses w.period turns (t ∷ w.ts) n
        late (z, f, a, sent) = elim
            (cases_lt (s + w.period) turns) [
              | inl l ↦ inside l (e.loses (s + w.period)) refl
              | inr g ↦ at-end (omega (arith, within, g))
                  (is_lost (of r t).heard) refl
            ]
          where
            inside : s + w.period < turns → (b : Bool) → e.loses (s + w.period) ≡ b → PeriodLoses w.period turns (t ∷ w.ts) n
            inside l true g = some (s + w.period) (omega (arith, long)) (omega arith) l (inl g)
            inside l false g =
                let comes : of_arrived (of_word (ack_of number)) (e.heard (z + o.delay)) ≡ true = is-heard (of_word (ack_of number)) k.hears
                z (omega (arith, f, l)) (ap e.loses f ∙ g) ∙ sent in
                let here = bp.stays (s + w.period) (omega (arith, long)) (omega arith) in
                let there = bp.goes_on l in
                absurd (clash (waits (e.account (s + w.period + 1)).own_breaks) there.waiting
                (wait-ends ((breaking w r).turn (s + w.period) l there.connected).own here.waiting
                (ap (λ x. of_arrived (of_word (ack_of x)) (e.heard (s + w.period))) here.numbered
                ∙ (ap (λ x. of_arrived (of_word (ack_of number)) (e.heard x)) (sym f) ∙ comes))))

            at-end : s + w.period ≡ turns → (b : Bool) → is_lost (of r t).heard ≡ b → PeriodLoses w.period turns (t ∷ w.ts) n
            at-end g true x = loses-last w.period t w.ts s n long q g r x
            at-end g false x = absurd (last-no g (last-heard (of_word (ack_of number)) w t cs r z (f ∙ g) x ∙ sent))

-- An end that gives up while a break waits: by the clock of its segments, or by that of the break.

-- what is known of its account before that turn
pub record LastWait (tries period turn : ℕ) (a : Account) : Type 0 where
  pub connected : is_connected a.phase ≡ true
  pub waiting : waits a.own_breaks ≡ true
  pub now : a.own_breaks.set + period ≡ turn
  pub count : a.own_breaks.count ≡ tries
  pub high : length a.own_breaks.lengths ≤ a.own_breaks.answered + 1

module _ {tries period : ℕ} {link : Link} {r : Role} {turn : ℕ} {a : Account} {arrived : Arrived} {mid b : Account}
    (i : InTurn tries period link r turn a arrived mid b) where
  pub last-wait : is_connected mid.phase ≡ true → SpendsBreak turn b → LastWait tries period turn a
  last-wait cm spends = from (i.polls.from cm)
    where
      own : b.own_breaks ≡ mid.own_breaks
      own = grind (arith, served-own)

      waits-mid : waits mid.own_breaks ≡ true
      waits-mid = ap waits (sym own) ∙ spends.waiting

      from : (is_connected a.phase ≡ true) ⊎ (is_linked a.phase ≡ false) → LastWait tries period turn a
      from (inr u) = grind (arith, old-heard, unlinked-of, rates, waits-mid)
      from (inl ca) = by (break-heard arrived turn a mid (is-linked a.phase ca) cm i.hears).own
        where
          by : ((mid.own_breaks ≡ a.own_breaks) × Unanswered arrived a.own_breaks)
              ⊎ ((waits a.own_breaks ≡ true) × (mid.own_breaks ≡ answered_own turn a.own_breaks)) → LastWait tries period turn a
          by x = grind (arith, clash, waits-mid, waits-not)

-- An end that gives up while a break waits was starved.

-- the periods of the break that waits at the end
pub periods-of : (w : TimedRun) → (r : Role) → LastWait w.tries w.period (length w.ts) (of r (w.state (length w.ts))) → (n : ℕ)
    → n < w.tries + 1 → (s : ℕ) × (s + (n + 1) * w.period ≡ length w.ts)
    × BreakPeriod w.period (length w.ts) (number_of (of r (w.state (length w.ts)))) (end_of w r) (deeds-of w r) s
periods-of w r l n less = break-periods (breaking w r) (first r) w.tries (number_of (of r (w.state (length w.ts))))
    (record { connected = l.connected; waiting = l.waiting; numbered = refl }) l.count l.now n
    (omega (arith, less))
  where
    first : (r : Role) → is_connected (of r (w.state 0)).phase ≡ false
    first r = ap (λ (a : Account). is_connected a.phase) (starts-fresh w r)

pub number-small : (x : ℕ) → x % 2 < 2
number-small x = omega arith

-- the answer isn't heard in the last turn
pub none-last : (link : Link) (ts : List Turn) (before : Accounts) (t : Turn) (mid : Accounts) (r : Role) (tries period : ℕ)
    → Hears (length ts) before t mid → is_connected (of r mid).phase ≡ true → LastWait tries period (length ts) (of r before)
    → waits (served_at link (length ts) mid r).account.own_breaks ≡ true
    → of_arrived (of_word (ack_of (number_of (of r before)))) (arrival (of r t).heard) ≡ true → ⊥
none-last link ts before t mid r tries period hearing cm l w e = grind (arith, clash, last-ends)

-- an originator
pub originator-breaks : StandTogether → (w : TimedRun) (t : Turn) (mid : Accounts) → Carries w.delay w.ts t
    → Hears (length w.ts) w.ends t mid → is_connected mid.orig.phase ≡ true
    → LastWait w.tries w.period (length w.ts) w.ends.orig
    → waits (served_at w.link (length w.ts) mid Originator).account.own_breaks ≡ true
    → LosesEach w.period (w.tries + 1) (length w.ts) (t ∷ w.ts)
originator-breaks together w t mid cs hearing cm l waiting n less = go (periods-of w Originator last n less)
  where
    turns : ℕ
    turns = length w.ts

    last : LastWait w.tries w.period turns (w.state turns).orig
    last = subst (λ (x : Accounts). LastWait w.tries w.period turns x.orig) (sym w.last) l

    k : TwoEnds w.period turns (end_of w Originator) (end_of w Answerer)
    k = two-ends w Originator

    go : (s : ℕ) × (s + (n + 1) * w.period ≡ turns) × BreakPeriod w.period turns (number_of (w.state turns).orig)
        (end_of w Originator) (deeds-of w Originator) s → PeriodLoses w.period turns (t ∷ w.ts) n
    go (s, q, bp) =
        let m = once w.period n in
        connected-loses w t cs Originator
        (number_of (w.state turns).orig) s n (number-small (w.state turns).orig.own_breaks.answered) q bp
        (λ u a b. peer-connected-at together w u (omega (arith, b, q, m)) (bp.stays u a b).connected)
        (λ u a b f. let c = was-sent is_sabme k.hears u (omega (arith, b, q, m)) f in
        answ-no-sabme w (u - w.delay Answerer) (omega (arith, b, q, m)) c.1)
        (λ g f. none-last w.link w.ts w.ends t mid Originator w.tries w.period hearing cm l waiting
        (ap (λ (x : Accounts). of_arrived (of_word (ack_of (number_of x.orig))) (arrival t.orig.heard)) (sym w.last) ∙ f))
