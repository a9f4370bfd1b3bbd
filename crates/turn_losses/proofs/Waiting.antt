-- A break that waits by the turn: when its BRK became due, and what is lost before it becomes due again.
use Rattle.turn_losses.proofs.Names.{inl, inr, ◌≡◌, ℕ, ◌+◌, ◌-◌, ◌*◌, ◌%◌, ◌<◌, ◌≤◌, true, false, arith, refl, sym, ◌∙◌, ap, cases_lt}
use Rattle.turn_losses.proofs.Names.{waits, Account, is_connected, of_frame, of_arrived, clash, EndRun, TwoEnds}
use Rattle.turn_losses.proofs.PeriodLaws.{was-sent, is-heard, turned, NoneLost}
use Rattle.turn_losses.proofs.Clocks.{Ticked, chain}
use Rattle.turn_losses.proofs.BreakTurn.{Deeds, OwnTurn, wait-ends, BreakTurn, number_of, brk_due}
use Rattle.turn_losses.proofs.Windows.{Breaking, brk-goes, ack-goes}
use Rattle.turn_losses.proofs.Clocks.Ticked.{Begins, Expires}
use Rattle.turn_losses.proofs.BreakTurn.OwnTurn.{Stays as OwnStays, Ends, Takes, Expires as OwnExpires}
use Rattle.turn_losses.proofs.Words.{ack_of, any_brk, brk_of, of_word}

-- the end is Connected in these turns, and waits with one number
pub record Waits (number : ℕ) (a : Account) : Type 0 where
  pub connected : is_connected a.phase ≡ true
  pub waiting : waits a.own_breaks ≡ true
  pub numbered : number_of a ≡ number

-- A break that waits as a clock.
abbrev Made : (ℕ → Deeds) → ℕ → Type 0
Made d s = (d s).made ≡ true

abbrev IsSet : EndRun → ℕ → ℕ → Type 0
IsSet e u s = (e.account u).own_breaks.set ≡ s

abbrev count_of : EndRun → ℕ → ℕ
count_of e u = (e.account u).own_breaks.count

ticks : {period turns : ℕ} (number : ℕ) {e : EndRun} {d : ℕ → Deeds} → Breaking period turns e d → (t : ℕ) → t < turns
    → Waits number (e.account (t + 1))
    → Ticked period t (λ u. Waits number (e.account u)) (λ v. Unit {0}) (Made d) (IsSet e) (count_of e)
ticks {period} {turns} number {e} {d} h t l y = by x.own
  where
    x : BreakTurn period t (e.heard t) (e.slot t) (d t) (e.account t) (e.account (t + 1))
    x = h.turn t l y.connected

    was : waits (e.account t).own_breaks ≡ true → (e.account (t + 1)).own_breaks.answered ≡ (e.account t).own_breaks.answered
        → Waits number (e.account t)
    was g q = record { connected = x.waited g; waiting = g; numbered = ap (λ n. n % 2) (sym q) ∙ y.numbered }

    by : OwnTurn period t (e.heard t) (d t).made (e.account t).own_breaks (e.account (t + 1)).own_breaks
        → Ticked period t (λ u. Waits number (e.account u)) (λ v. Unit {0}) (Made d) (IsSet e) (count_of e)
    by (OwnStays m n q) = grind (arith, was, waits)
    by (Ends m w v r) = clash (waits (e.account (t + 1)).own_breaks) y.waiting v
    by (Takes m w r v s z) = Begins s z m
    by (OwnExpires m w s n q) = let count = ap (λ o. o.count) q in Expires (e.account t).own_breaks.set
        (was w (ap (λ o. o.answered) q)) refl (sym s) (ap (λ o. o.set) q) (λ n r. omega (arith, count, r)) m

-- a period of a waiting break
pub record BreakPeriod (period turns number : ℕ) (e : EndRun) (d : ℕ → Deeds) (s : ℕ) : Type 0 where
  pub made : (d s).made ≡ true
  pub stays : (u : ℕ) → s < u → u ≤ s + period → Waits number (e.account u)
  pub goes_on : s + period < turns → Waits number (e.account (s + period + 1))

pub break-periods : {period turns : ℕ} {e : EndRun} {d : ℕ → Deeds} → Breaking period turns e d → is_connected (e.account 0).phase ≡ false
    → (n number : ℕ) → Waits number (e.account turns) → (e.account turns).own_breaks.count ≡ n
    → (e.account turns).own_breaks.set + period ≡ turns → (j : ℕ) → j ≤ n
    → (s : ℕ) × (s + (j + 1) * period ≡ turns) × BreakPeriod period turns number e d s
break-periods {period} {turns} {e} {d} h first n number w c due j less =
    let x = chain period turns (λ u. Waits number (e.account u)) (λ v. Unit {0}) (Made d) (IsSet e) (count_of e) (λ u s r a b. sym a ∙ b)
    (λ z. clash (is_connected (e.account 0).phase) z.connected first) (ticks number h) n turns
    (e.account turns).own_breaks.set (omega arith) w c refl due j less in
    (x.0, x.1, record { made = x.2.asked; stays = x.2.ran; goes_on = x.2.goes_on })

-- Where nothing is lost in it and the other end is Connected, the BRKACK comes in its very last turn, if at all.
pub break-answered : {period turns : ℕ} (number : ℕ) {e o : EndRun} {d d' : ℕ → Deeds} → TwoEnds period turns e o
    → Breaking period turns e d → Breaking period turns o d' → brk_due (o.account 0) ≡ false → number < 2 → (s : ℕ) → s + period ≤ turns
    → BreakPeriod period turns number e d s
    → ((u : ℕ) → s < u → u ≤ s + period → is_connected (o.account u).phase ≡ true)
    → ((t : ℕ) → s ≤ t → t < s + period → (d t).answers ≡ false)
    → ((t : ℕ) → s + e.delay ≤ t → t < s + period → (d' t).answers ≡ false) → NoneLost e o (s + 1) (period - 1)
    → (z : ℕ) × (z + o.delay ≡ s + period) × (s < z) × (of_frame (of_word (ack_of number)) (o.slot z) ≡ true)
break-answered {period} {turns} number {e} {o} {d} {d'} k h h' first small s within bp co na na' lost = go
    (brk-goes k h h' first s (omega (arith, k.period_is, within)) (λ t a b. (bp.stays t a (omega (arith, b, k.period_is))).connected)
    (λ t a b. (bp.stays t a (omega (arith, b, k.period_is))).waiting) (λ t a b. na t a (omega (arith, b, k.period_is))) (inr bp.made))
  where
    dl : 1 ≤ e.delay
    dl = k.own_delay

    go : (y : ℕ) × (s ≤ y) × (y < s + 14) × (of_frame (of_word (brk_of (number_of (e.account (y + 1))))) (e.slot y) ≡ true)
        → (z : ℕ) × (z + o.delay ≡ s + period) × (s < z) × (of_frame (of_word (ack_of number)) (o.slot z) ≡ true)
    go (y, lo, hi, sent) = answered (ack-goes (turned k) h' x number small (omega (arith, k.period_is, within, hi, dl, k.other_delay))
        (λ t a b. co t (omega (arith, a, lo)) (omega (arith, b, hi, k.period_is, dl, k.other_delay)))
        (λ t a b q. numbered t a (omega (arith, b, hi, k.period_is, dl, k.other_delay)) q)
        (λ t a b. na' t (omega (arith, a, lo)) (omega (arith, b, hi, k.period_is, dl, k.other_delay))) heard)
      where
        x : ℕ
        x = y + e.delay

        heard : of_arrived (of_word (brk_of number)) (o.heard x) ≡ true
        heard = is-heard (of_word (brk_of number)) k.is_heard y (omega (arith, hi, k.period_is, within))
            (lost x (omega (arith, lo, dl)) (omega (arith, hi, k.period_is))).1
            ∙ (ap (λ n. of_frame (of_word (brk_of n)) (e.slot y))
            (sym (bp.stays (y + 1) (omega (arith, lo)) (omega (arith, hi, k.period_is))).numbered) ∙ sent)

        numbered : (t : ℕ) → x ≤ t → t < s + period → of_arrived (of_word any_brk) (o.heard t) ≡ true
            → of_arrived (of_word (brk_of number)) (o.heard t) ≡ true
        numbered t a b q =
            let c = was-sent (of_word any_brk) k.is_heard t (omega (arith, b, within)) q in
            let v : ℕ = t - e.delay in
            let w = bp.stays (v + 1) (omega (arith, a, lo)) (omega (arith, b, dl)) in
            let z = (h.turn v (omega (arith, b, within)) w.connected).brk_sent c.1 in
            let back : v + e.delay ≡ t = omega (arith, a) in
            let passes : o.loses (v + e.delay) ≡ false = (lost (v + e.delay) (omega (arith, back, a, lo, dl)) (omega (arith, back, b))).1 in
            ap (λ j. of_arrived (of_word (brk_of number)) (o.heard j)) (sym back)
            ∙ (is-heard (of_word (brk_of number)) k.is_heard v
            (omega (arith, back, b, within)) passes ∙ (ap (λ n. of_frame (of_word (brk_of n)) (e.slot v)) (sym w.numbered) ∙ z.2))

        answered : (z : ℕ) × (x ≤ z) × (z < x + 6) × (of_frame (of_word (ack_of number)) (o.slot z) ≡ true)
            → (z : ℕ) × (z + o.delay ≡ s + period) × (s < z) × (of_frame (of_word (ack_of number)) (o.slot z) ≡ true)
        answered (z, a, b, q) = elim (cases_lt (z + o.delay) (s + period)) [
          | inl l ↦ absurd (ends l)
          | inr g ↦ (z, omega (arith, g, soon), omega (arith, a, lo, dl), q)
        ]
          where
            v : ℕ
            v = z + o.delay

            soon : v ≤ s + period
            soon = omega (arith, b, hi, k.period_is, dl, k.other_delay)

            ends : v < s + period → ⊥
            ends less =
                let here = bp.stays v (omega (arith, a, lo, dl)) (omega (arith, less)) in
                let there = bp.stays (v + 1) (omega (arith, a, lo, dl)) (omega (arith, less)) in
                let comes : of_arrived (of_word (ack_of number)) (e.heard v) ≡ true = is-heard (of_word (ack_of number)) k.hears z
                (omega (arith, less, within))
                (lost v (omega (arith, a, lo, dl)) (omega (arith, less))).0 ∙ q in
                clash (waits (e.account (v + 1)).own_breaks) there.waiting
                (wait-ends (h.turn v (omega (arith, less, within)) there.connected).own here.waiting
                (ap (λ n. of_arrived (of_word (ack_of n)) (e.heard v)) here.numbered ∙ comes))
