-- How often something happens in some turns that follow one another.
use Rattle.turn_losses.proofs.Names.{◌⊎◌, inl, inr, ◌≡◌, ℕ, zero, suc, ◌+◌, ◌-◌, ◌<◌, ◌≤◌, Bool, true, false, arith, refl, ap, ◌&&◌}
use Rattle.turn_losses.proofs.Names.{nat_le, sym, ◌∙◌, ◌*◌, subst, Option, Some, None, nat_tests, OwnBreaks, waits, is_connected, BreakWord}
use Rattle.turn_losses.proofs.Names.{of_frame, of_arrived, not-true, and-two, and-drop, clash, EndRun, TwoEnds, sends_poll, sends_final}
use Rattle.turn_losses.proofs.Names.{hears_final, is_poll}
use Rattle.std.proofs.lemmas.Bool.{cases_lt}
use Rattle.turn_losses.proofs.BreakTurn.{holds, Deeds, OwnTurn, made-set, BreakTurn, brk_due, number_of, ack_due}
use Rattle.turn_losses.proofs.PollHear.{linked-connected}
use Rattle.turn_losses.proofs.PeriodLaws.{was-sent, turned, polls-apart, reply-matches, connected-since}
use Rattle.turn_losses.proofs.BreakTurn.OwnTurn.{Stays, Ends, Takes, Expires}
use Rattle.turn_losses.proofs.Words.{any_brk, of_word, ack_of, brk_of, pends_of, pends}
use Rattle.turn_losses.proofs.Kept.{kept-in, until}
use Rattle.turn_losses.proofs.Moving.{asks}
use Rattle.turn_bound.proofs.Lines.{one-most}
use Rattle.turn_bound.proofs.Value.{one_if}

abbrev pub hits : (ℕ → Bool) → ℕ → ℕ → ℕ
hits f from zero = 0
hits f from (suc n) = hits f from n + one_if (f (from + n))

-- of hits that lie so far apart there is one at most in as many turns
one-hit : (f : ℕ → Bool) (from n : ℕ) → 1 ≤ hits f from n → (t : ℕ) × (from ≤ t) × (t < from + n) × (f t ≡ true)
one-hit f from zero h = let wrong : ⊥ = omega (arith, h) in absurd wrong
one-hit f from (suc n) h = by (f (from + n)) refl (cases_lt (hits f from n) 1) (λ g. one-hit f from n g)
  where
    by : (x : Bool) → f (from + n) ≡ x → (hits f from n < 1) ⊎ (1 ≤ hits f from n)
        → (1 ≤ hits f from n → (t : ℕ) × (from ≤ t) × (t < from + n) × (f t ≡ true))
        → (t : ℕ) × (from ≤ t) × (t < from + suc n) × (f t ≡ true)
    by x e v again = grind (arith)

pub once : (f : ℕ → Bool) (apart turns : ℕ) → ((s t : ℕ) → s < t → t < turns → f s ≡ true → f t ≡ true → s + apart ≤ t) → (from n : ℕ)
    → n ≤ apart → from + n ≤ turns → hits f from n ≤ 1
once f apart turns h from zero l w = omega arith
once f apart turns h from (suc n) l w = grind (arith, once f apart turns h from n (omega (arith, l)) (omega (arith, w)), one-most, one-hit)

pub hits-sum : (f : ℕ → Bool) (from m n : ℕ) → hits f from (m + n) ≡ hits f from m + hits f (from + m) n
hits-sum f from m zero = grind (arith)
hits-sum f from m (suc n) =
    let again = hits-sum f from m n in
    let same : hits f from (m + suc n) ≡ hits f from (m + n) + one_if (f (from + (m + n))) = ap (hits f from) (next m n) in
    let place : one_if (f (from + (m + n))) ≡ one_if (f (from + m + n)) = ap (λ x. one_if (f x)) (omega arith) in grind (arith)
  where
    next : (x y : ℕ) → x + suc y ≡ suc (x + y)
    next x y = omega arith

pub twice : (f : ℕ → Bool) (apart turns : ℕ) → ((s t : ℕ) → s < t → t < turns → f s ≡ true → f t ≡ true → s + apart ≤ t) → (from n : ℕ)
    → n ≤ apart + apart → from + n ≤ turns → hits f from n ≤ 2
twice f apart turns h from n l w = elim (cases_lt n apart) [
  | inl less ↦ (let one = once f apart turns h from n (omega (arith, less)) w in omega (arith, one))
  | inr more ↦ split (omega (arith, more))
]
  where
    split : apart ≤ n → hits f from n ≤ 2
    split more =
        let first = once f apart turns h from apart (omega arith) (omega (arith, w, more)) in
        let second = once f apart turns h (from + apart) (n - apart) (omega (arith, l)) (omega (arith, w, more)) in
        let sum = hits-sum f from apart (n - apart) in
        let whole = ap (hits f from) (back apart n more) in grind (arith)
      where
        back : (a m : ℕ) → a ≤ m → a + (m - a) ≡ m
        back a m g = omega (arith, g)

-- what happens only while something stands that another thing makes, and ends by it: once more than that, where it stands at first
pub made-by : (f stands makes : ℕ → Bool) (from n : ℕ)
    → ((t : ℕ) → from ≤ t → t < from + n → one_if (stands (t + 1)) + one_if (f t) ≤ one_if (stands t) + one_if (makes t))
    → hits f from n + one_if (stands (from + n)) ≤ one_if (stands from) + hits makes from n
made-by f stands makes from zero h = grind (arith)
made-by f stands makes from (suc n) h =
    let again = made-by f stands makes from n (λ t a b. h t a (omega (arith, b))) in
    let now = h (from + n) (omega arith) (omega arith) in
    let same : one_if (stands (from + suc n)) ≡ one_if (stands (from + n + 1)) = ap (λ x. one_if (stands x)) (omega arith) in
    omega (arith, again, now, same)

pub at-most-made : (f stands makes : ℕ → Bool) (from n : ℕ)
    → ((t : ℕ) → from ≤ t → t < from + n → one_if (stands (t + 1)) + one_if (f t) ≤ one_if (stands t) + one_if (makes t))
    → hits f from n ≤ 1 + hits makes from n
at-most-made f stands makes from n h = let k = made-by f stands makes from n h in let one = one-most (stands from) in omega (arith, k, one)

-- where one of these happens in each turn, they happen as often in all
pub all-held : (final poll hurries acks special answer : ℕ → Bool) (from n : ℕ)
    → ((t : ℕ) → from ≤ t → t < from + n → holds (final t) (poll t) (hurries t) (acks t) (special t) (answer t) ≡ true)
    → n ≤ hits final from n + hits poll from n + hits hurries from n + hits acks from n + hits special from n + hits answer from n
all-held final poll hurries acks special answer from zero h = omega arith
all-held final poll hurries acks special answer from (suc n) h =
    let again = all-held final poll hurries acks special answer from n (λ t a b. h t a (omega (arith, b))) in
    let t : ℕ = from + n in
    let one = count (final t) (poll t) (hurries t) (acks t) (special t) (answer t) (h t (omega arith) (omega arith)) in
    omega (arith, again, one)
  where
    count : (a b c d e f : Bool) → holds a b c d e f ≡ true → 1 ≤ one_if a + one_if b + one_if c + one_if d + one_if e + one_if f
    count s b c d e f q = grind (arith)

pub no-hits : (f : ℕ → Bool) (from n : ℕ) → ((t : ℕ) → from ≤ t → t < from + n → f t ≡ false) → hits f from n ≡ 0
no-hits f from zero h = refl
no-hits f from (suc n) h = let again = no-hits f from n (λ t a b. h t a (omega (arith, b))) in let now = ap one_if
    (h (from + n) (omega arith) (omega arith)) in omega (arith, again, now)

-- the special turns are the first one, at most, and those behind a BRKACK
implied : (x y : Bool) → (x ≡ true → y ≡ true) → one_if x ≤ one_if y
implied b y e = grind (arith)

behind : (special acks : ℕ → Bool) (from n j : ℕ) → j < n
    → ((t : ℕ) → from ≤ t → t + 1 < from + n → special (t + 1) ≡ true → acks t ≡ true) → hits special from (suc j) ≤ 1 + hits acks from j
behind special acks from n zero l h = let one = one-most (special (from + 0)) in omega (arith, one)
behind special acks from n (suc j) l h = grind (arith, behind special acks from n j (omega (arith, l)) h)

pub after-acks : (special acks : ℕ → Bool) (from n : ℕ) → ((t : ℕ) → from ≤ t → t + 1 < from + n → special (t + 1) ≡ true → acks t ≡ true)
    → hits special from n ≤ 1 + hits acks from n
after-acks special acks from zero h = omega arith
after-acks special acks from (suc n) h = let w = behind special acks from (suc n) n (omega arith) h in omega (arith, w)

-- How soon a BRK goes, and the BRKACK that answers it.

-- an end's breaks by the turn
pub record Breaking (period turns : ℕ) (e : EndRun) (d : ℕ → Deeds) : Type 0 where
  pub turn : (t : ℕ) → t < turns → is_connected (e.account (t + 1)).phase ≡ true
      → BreakTurn period t (e.heard t) (e.slot t) (d t) (e.account t) (e.account (t + 1))
  pub says : (t : ℕ) → t < turns → of_frame (of_word any_brk) (e.slot t) ≡ true → is_connected (e.account (t + 1)).phase ≡ true

-- since a BRK became due: the break's timer was set no earlier, or no break is taken for eight turns
pub record Since (m : ℕ) (o : OwnBreaks) : Type 0 where
  pub set : waits o ≡ true → m ≤ o.set
  pub rest : waits o ≡ false → m + 8 ≤ o.rest

since-set : {m : ℕ} (o : OwnBreaks) → waits o ≡ true → m ≤ o.set → Since m o
since-set o w s = record { set = λ v. s; rest = λ v. clash (waits o) w v }

since-made : {period turns : ℕ} {e o : EndRun} {d : ℕ → Deeds} → TwoEnds period turns e o → Breaking period turns e d → (m t : ℕ)
    → m < t → t ≤ turns → (d m).made ≡ true → is_connected (e.account (m + 1)).phase ≡ true → is_connected (e.account t).phase ≡ true
    → Since m (e.account t).own_breaks
since-made {period} {turns} {e} {o} {d} k h m t less l made c1 c = kept-in (λ u. Since m (e.account u).own_breaks) (m + 1) t
    (omega (arith, less)) step (let x = made-set (h.turn m (omega (arith, less, l)) c1).own made in let s = x.1 in
    since-set (e.account (m + 1)).own_breaks x.0 (omega (arith, s)))
  where
    step : (u : ℕ) → m + 1 ≤ u → u < t → Since m (e.account u).own_breaks → Since m (e.account (u + 1)).own_breaks
    step u lo hi i = by (h.turn u (omega (arith, hi, l)) (connected-since k (m + 1) t l (linked-connected (e.account (m + 1)).phase c1) c
        (u + 1) (omega (arith, lo)) (omega (arith, hi)))).own
      where
        by : OwnTurn period u (e.heard u) (d u).made (e.account u).own_breaks (e.account (u + 1)).own_breaks
            → Since m (e.account (u + 1)).own_breaks
        by (Stays x n q) = let set = ap (λ y. y.set) q in let rest = ap (λ y. y.rest) q in record {
          set = λ w. let s = i.set (ap waits (sym q) ∙ w) in omega (arith, s, set);
          rest = λ w. let s = i.rest (ap waits (sym q) ∙ w) in omega (arith, s, rest);
        }
        by (Ends x w v r) = record { set = λ y. clash (waits (e.account (u + 1)).own_breaks) y v; rest = λ y. omega (arith, r, lo) }
        by (Takes x w r v s z) = since-set (e.account (u + 1)).own_breaks v (omega (arith, s, lo))
        by (Expires x w y n q) = let set = ap (λ y. y.set) q in since-set (e.account (u + 1)).own_breaks (ap waits q ∙ w)
            (omega (arith, set, lo))

-- so they become due at least eight turns apart
pub made-apart : {period turns : ℕ} {e o : EndRun} {d : ℕ → Deeds} → TwoEnds period turns e o → Breaking period turns e d → (s t : ℕ)
    → s < t → t < turns → (d s).made ≡ true → (d t).made ≡ true → is_connected (e.account (s + 1)).phase ≡ true
    → is_connected (e.account (t + 1)).phase ≡ true
    → s + 8 ≤ t
made-apart {period} {turns} {e} {o} {d} k h s t less within ms mt cs ct = by (h.turn t within ct).own
  where
    i : Since s (e.account t).own_breaks
    i = since-made k h s t less (omega (arith, within)) ms cs
        (connected-since k (s + 1) (t + 1) (omega (arith, within)) (linked-connected (e.account (s + 1)).phase cs) ct t
        (omega (arith, less)) (omega arith))

    by : OwnTurn period t (e.heard t) (d t).made (e.account t).own_breaks (e.account (t + 1)).own_breaks → s + 8 ≤ t
    by (Stays m n q) = clash (d t).made mt m
    by (Ends m w v r) = clash (d t).made mt m
    by (Takes m w r v x z) = let y = i.rest w in omega (arith, y, r)
    by (Expires m w x n q) = let y = i.set w in omega (arith, x, y, k.period_is)

-- F replies are sent, and answers heard, as far apart as polls
pub replies-apart : {period turns : ℕ} {e o : EndRun} → TwoEnds period turns e o → (s t : ℕ) → s < t → t < turns → sends_final e s ≡ true
    → sends_final e t ≡ true → s + (period - 1) ≤ t
replies-apart {period} {turns} {e} {o} k s t less within a b =
    let p = k.period_is in
    let x = was-sent is_poll k.hears s (omega (arith, less, within))
    ((k.own s (omega (arith, less, within))).replied a) in
    let y = was-sent is_poll k.hears t within ((k.own t within).replied b) in
    let x0 = x.0 in let y0 = y.0 in
    let far = polls-apart (turned k) (s - o.delay) (t - o.delay) (omega (arith, less, x0, y0))
    (omega (arith, within)) x.1 y.1 in
    omega (arith, far, x0, y0, p)

pub answers-apart : {period turns : ℕ} {e o : EndRun} → TwoEnds period turns e o → (s t : ℕ) → s < t → t < turns → hears_final e s ≡ true
    → hears_final e t ≡ true → s + (period - 1) ≤ t
answers-apart {period} {turns} {e} {o} k s t less within a b =
    let p = k.period_is in
    let x = reply-matches k s (omega (arith, less, within)) a in
    let y = reply-matches k t within b in
    let x0 = x.round_trip in let y0 = y.round_trip in
    let far = polls-apart k x.sent y.sent (omega (arith, less, x0, y0)) (omega (arith, y0, within)) x.is_sent y.is_sent in
    omega (arith, far, x0, y0, p)

pub polls-far : {period turns : ℕ} {e o : EndRun} → TwoEnds period turns e o → (s t : ℕ) → s < t → t < turns → sends_poll e s ≡ true
    → sends_poll e t ≡ true → s + (period - 1) ≤ t
polls-far {period} {turns} {e} {o} k s t less within a b = let p = k.period_is in let far = polls-apart k s t less within a b in
    omega (arith, far, p)

pub sum-at-most : (x y z w : Bool) → (x ≡ true → (z ≡ true) ⊎ (w ≡ true)) → (y ≡ true → ((z ≡ true) ⊎ (w ≡ true)) × (x ≡ false))
    → one_if x + one_if y ≤ one_if z + one_if w
sum-at-most x y z w f g = grind (arith, clash)

-- urgent segments go twice at most
pub hurries-twice : {period turns : ℕ} {e o : EndRun} {d : ℕ → Deeds} → TwoEnds period turns e o → Breaking period turns e d → (s n : ℕ)
    → n + 1 ≤ period → s + n ≤ turns → ((t : ℕ) → s < t → t ≤ s + n → is_connected (e.account t).phase ≡ true)
    → hits (λ t. (d t).hurries) s n ≤ 2
hurries-twice {period} {turns} {e} {o} {d} k h s n l w c =
    let made = at-most-made (λ t. (d t).hurries) (λ t. (e.account t).wait.urgent) (hears_final e) s n
    (λ t a b. let x = h.turn t (omega (arith, b, w)) (c (t + 1) (omega (arith, a)) (omega (arith, b))) in
    sum-at-most (e.account (t + 1)).wait.urgent (d t).hurries (e.account t).wait.urgent (hears_final e t) x.urgent x.hurried) in
    let one = once (hears_final e) (period - 1) turns (answers-apart k) s n (omega (arith, l)) w in
    omega (arith, made, one)

-- of the other end's BRKs three at most are heard in fourteen turns
abbrev pub shifted : ℕ → (ℕ → Bool) → ℕ → Bool
shifted delay f t = nat_le delay t && f (t - delay)

module _ {period turns : ℕ} {e o : EndRun} {d : ℕ → Deeds} (k : TwoEnds period turns e o) (h : Breaking period turns o d)
    (first : brk_due (o.account 0) ≡ false) where
  abbrev was_due : ℕ → Bool
  was_due = shifted o.delay (λ t. brk_due (o.account t))

  abbrev was_made : ℕ → Bool
  was_made = shifted o.delay (λ t. is_connected (o.account (t + 1)).phase && (d t).made)

  abbrev heard_brk : ℕ → Bool
  heard_brk t = of_arrived (of_word any_brk) (e.heard t)

  below : (a b : ℕ) → nat_le a b ≡ true → a ≤ b
  below a b e = grind (arith, nat_tests, e)

  is-below : (a b : ℕ) → a ≤ b → nat_le a b ≡ true
  is-below a b e = grind (arith, nat_tests, e)

  apart : (x y : ℕ) → x < y → y < turns → was_made x ≡ true → was_made y ≡ true → x + 8 ≤ y
  apart x y less within p q = grind (arith, and-two, below, made-apart, turned)

  each : (t : ℕ) → t < turns → one_if (was_due (t + 1)) + one_if (heard_brk t) ≤ one_if (was_due t) + one_if (was_made t)
  each t within = go (cases_lt t o.delay)
    where
      heard-so : heard_brk t ≡ true
          → (o.delay ≤ t) × (of_frame (of_word any_brk) (o.slot (t - o.delay)) ≡ true)
      heard-so q = was-sent (of_word any_brk) k.hears t within q

      go : (t < o.delay) ⊎ (o.delay ≤ t) → one_if (was_due (t + 1)) + one_if (heard_brk t) ≤ one_if (was_due t) + one_if (was_made t)
      go (inl early) = grind (arith, not-true, and-two, clash, heard-so)
      go (inr late) = sum-at-most (was_due (t + 1)) (heard_brk t) (was_due t) (was_made t) due heard
        where
          u : ℕ
          u = t - o.delay

          next : t + 1 - o.delay ≡ u + 1
          next = omega (arith, late)

          both : (f : ℕ → Bool) → f u ≡ true → shifted o.delay f t ≡ true
          both f q = ap (λ b. b && f u) (is-below o.delay t late) ∙ q

          turn : is_connected (o.account (u + 1)).phase ≡ true
              → BreakTurn period u (o.heard u) (o.slot u) (d u) (o.account u) (o.account (u + 1))
          turn c = h.turn u (omega (arith, within)) c

          from : is_connected (o.account (u + 1)).phase ≡ true → (brk_due (o.account u) ≡ true) ⊎ ((d u).made ≡ true)
              → (was_due t ≡ true) ⊎ (was_made t ≡ true)
          from c (inl x) = inl (both (λ t. brk_due (o.account t)) x)
          from c (inr x) = inr (both (λ t. is_connected (o.account (t + 1)).phase && (d t).made) (ap (λ b. b && (d u).made) c ∙ x))

          due : was_due (t + 1) ≡ true → (was_due t ≡ true) ⊎ (was_made t ≡ true)
          due q = grind (arith, and-two, next, u, from, turn) steps 400000

          heard : heard_brk t ≡ true → ((was_due t ≡ true) ⊎ (was_made t ≡ true)) × (was_due (t + 1) ≡ false)
          heard q =
              let sent = (heard-so q).1 in
              let c = h.says u (omega (arith, within)) sent in
              let x = (turn c).brk_sent sent in grind (arith, from, next, and-drop, u) steps 400000

  pub brks-heard : (s n : ℕ) → n ≤ 16 → s + n ≤ turns → hits (λ t. of_arrived (of_word any_brk) (e.heard t)) s n ≤ 3
  brks-heard s n l w =
      let made = at-most-made heard_brk was_due was_made s n (λ t a b. each t (omega (arith, b, w))) in
      let two = twice was_made 8 turns apart s n (omega (arith, l)) w in
      omega (arith, made, two)

-- A BRK goes within fourteen turns, and the BRKACK that answers it within six.
abbrev pub AllConnected : EndRun → ℕ → ℕ → Type 0
AllConnected e s n = (t : ℕ) → s < t → t ≤ s + n → is_connected (e.account t).phase ≡ true

-- each BRKACK that goes was asked for
acks-few : {period turns : ℕ} {e o : EndRun} {d d' : ℕ → Deeds} → TwoEnds period turns e o → Breaking period turns e d
    → Breaking period turns o d' → brk_due (o.account 0) ≡ false → (s n : ℕ) → n ≤ 16 → s + n ≤ turns → AllConnected e s n
    → hits (λ t. (d t).acks) s n ≤ 4
acks-few {period} {turns} {e} {o} {d} {d'} k h h' first s n l w c =
    let made = at-most-made (λ t. (d t).acks) (λ t. ack_due (e.account t)) (λ t. of_arrived (of_word any_brk) (e.heard t)) s n
    (λ t a b. let x = h.turn t (omega (arith, b, w)) (c (t + 1) (omega (arith, a)) (omega (arith, b))) in
    sum-at-most (ack_due (e.account (t + 1))) (d t).acks (ack_due (e.account t)) (of_arrived (of_word any_brk) (e.heard t))
    (λ q. (x.ack_from q).0) (λ q. (x.acked q, not-true (ack_due (e.account (t + 1))) (λ f. clash (d t).acks q (x.ack_from f).1)))) in
    let three = brks-heard k h' first s n l w in
    omega (arith, made, three)

abbrev pub NoAnswers : (ℕ → Deeds) → ℕ → ℕ → Type 0
NoAnswers d s n = (t : ℕ) → s ≤ t → t < s + n → (d t).answers ≡ false

abbrev BrkDue : EndRun → ℕ → ℕ → Type 0
BrkDue e s n = (t : ℕ) → s ≤ t → t < s + n → brk_due (e.account (t + 1)) ≡ true

abbrev AckDue : EndRun → ℕ → ℕ → ℕ → Type 0
AckDue e number x n = (t : ℕ) → x ≤ t → t < x + n → pends_of number (e.account (t + 1)).their_breaks.ack ≡ true

-- A BRK that is due goes within fourteen turns, while its break waits.
pub brk-goes : {period turns : ℕ} {e o : EndRun} {d d' : ℕ → Deeds} → TwoEnds period turns e o → Breaking period turns e d
    → Breaking period turns o d' → brk_due (o.account 0) ≡ false → (s : ℕ) → s + 14 ≤ turns → AllConnected e s 14
    → ((t : ℕ) → s < t → t ≤ s + 14 → waits (e.account t).own_breaks ≡ true) → NoAnswers d s 14
    → (brk_due (e.account s) ≡ true) ⊎ ((d s).made ≡ true)
    → (y : ℕ) × (s ≤ y) × (y < s + 14) × (of_frame (of_word (brk_of (number_of (e.account (y + 1))))) (e.slot y) ≡ true)
brk-goes {period} {turns} {e} {o} {d} {d'} k h h' first s within c ws na due = elim
    (until (λ t. of_frame (of_word (brk_of (number_of (e.account (t + 1))))) (e.slot t) ≡ true) (λ t. brk_due (e.account (t + 1)) ≡ true)
    s 14 step) [
      | inl x ↦ x
      | inr all ↦ absurd (none-held all)
    ]
  where
    turn : (t : ℕ) → s ≤ t → t < s + 14 → BreakTurn period t (e.heard t) (e.slot t) (d t) (e.account t) (e.account (t + 1))
    turn t a b = h.turn t (omega (arith, b, within)) (c (t + 1) (omega (arith, a)) (omega (arith, b)))

    none-held : BrkDue e s 14 → ⊥
    none-held all =
        let held = all-held (sends_final e) (sends_poll e) (λ t. (d t).hurries) (λ t. (d t).acks) (λ t. (e.account t).special)
        (λ t. (d t).answers) s 14 (λ t a b. (turn t a b).held (inl (all t a b))) in
        let one = once (sends_final e) (period - 1) turns (replies-apart k) s 14 (omega (arith, k.period_is)) within in
        let one' = once (sends_poll e) (period - 1) turns (polls-far k) s 14 (omega (arith, k.period_is)) within in
        let two = hurries-twice k h s 14 (omega (arith, k.period_is)) within c in
        let four = acks-few k h h' first s 14 (omega arith) within c in
        let five = after-acks (λ t. (e.account t).special) (λ t. (d t).acks) s 14
        (λ t a b q. (turn t a (omega (arith, b))).special_own q (all t a (omega (arith, b)))) in
        let zero-answers = no-hits (λ t. (d t).answers) s 14 na in grind (arith)

    step : (t : ℕ) → s ≤ t → t < s + 14 → ((u : ℕ) → s ≤ u → u < t → brk_due (e.account (u + 1)) ≡ true)
        → (of_frame (of_word (brk_of (number_of (e.account (t + 1))))) (e.slot t) ≡ true) ⊎ (brk_due (e.account (t + 1)) ≡ true)
    step t a b all = elim ((turn t a b).brk_goes (ws (t + 1) (omega (arith, a)) (omega (arith, b))) due-at) [
      | inl q ↦ inr q
      | inr q ↦ inl q
    ]
      where
        due-at : (brk_due (e.account t) ≡ true) ⊎ ((d t).made ≡ true)
        due-at = elim (cases_lt s t) [
          | inl l ↦ inl (ap (λ x. brk_due (e.account x)) (omega (arith, l)) ∙ all (t - 1) (omega (arith, l)) (omega (arith, l)))
          | inr g ↦ subst (λ x. (brk_due (e.account x) ≡ true) ⊎ ((d x).made ≡ true)) (omega (arith, a, g)) due
        ]

-- A BRK that is heard is answered within six turns, where no BRK of another number is heard in them.
pub ack-goes : {period turns : ℕ} {e o : EndRun} {d : ℕ → Deeds} → TwoEnds period turns e o → Breaking period turns e d → (x number : ℕ)
    → number < 2 → x + 6 ≤ turns → AllConnected e x 6
    → ((t : ℕ) → x ≤ t → t < x + 6 → of_arrived (of_word any_brk) (e.heard t) ≡ true
    → of_arrived (of_word (brk_of number)) (e.heard t) ≡ true) → NoAnswers d x 6
    → of_arrived (of_word (brk_of number)) (e.heard x) ≡ true
    → (z : ℕ) × (x ≤ z) × (z < x + 6) × (of_frame (of_word (ack_of number)) (e.slot z) ≡ true)
ack-goes {period} {turns} {e} {o} {d} k h x number small within c same na asks = elim
    (until (λ t. of_frame (of_word (ack_of number)) (e.slot t) ≡ true) (λ t. pends_of number (e.account
    (t + 1)).their_breaks.ack ≡ true) x 6 step) [
      | inl y ↦ y
      | inr all ↦ absurd (none-held all)
    ]
  where
    p : period ≡ 2 * (e.delay + o.delay) + 16
    p = k.period_is

    turn : (t : ℕ) → x ≤ t → t < x + 6 → BreakTurn period t (e.heard t) (e.slot t) (d t) (e.account t) (e.account (t + 1))
    turn t a b = h.turn t (omega (arith, b, within)) (c (t + 1) (omega (arith, a)) (omega (arith, b)))

    any-due : (m : Option BreakWord) → pends_of number m ≡ true → pends m ≡ true
    any-due None q = cc
    any-due (Some word) q = refl

    none-held : AckDue e number x 6 → ⊥
    none-held all =
        let held = all-held (sends_final e) (sends_poll e) (λ t. (d t).hurries) (λ t. (d t).acks) (λ t. (e.account t).special)
        (λ t. (d t).answers) x 6 (λ t a b. (turn t a b).held (inr (any-due (e.account (t + 1)).their_breaks.ack (all t a b)))) in
        let one = once (sends_final e) (period - 1) turns (λ s t. replies-apart k s t) x 6 (omega (arith, p)) within in
        let one' = once (sends_poll e) (period - 1) turns (λ s t. polls-far k s t) x 6 (omega (arith, p)) within in
        let two = hurries-twice k h x 6 (omega (arith, p)) within c in
        let none = no-hits (λ t. (d t).acks) x 6 (λ t a b. ((turn t a b).ack_from (any-due (e.account (t + 1)).their_breaks.ack
        (all t a b))).1) in
        let five = after-acks (λ t. (e.account t).special) (λ t. (d t).acks) x 6
        (λ t a b q. absurd ((turn t a (omega (arith, b))).special_ack q (any-due (e.account (t + 1)).their_breaks.ack (all t a (omega
        (arith, b))))))
        in
        let zero-answers = no-hits (λ t. (d t).answers) x 6 na in grind (arith)

    step : (t : ℕ) → x ≤ t → t < x + 6 → ((u : ℕ) → x ≤ u → u < t → pends_of number (e.account (u + 1)).their_breaks.ack ≡ true)
        → (of_frame (of_word (ack_of number)) (e.slot t) ≡ true) ⊎ (pends_of number (e.account (t + 1)).their_breaks.ack ≡ true)
    step t a b all = elim (due-at (of_arrived (of_word any_brk) (e.heard t)) refl) [ inl q ↦ inr q | inr q ↦ inl q ]
      where
        due-at : (y : Bool) → of_arrived (of_word any_brk) (e.heard t) ≡ y
            → (pends_of number (e.account (t + 1)).their_breaks.ack ≡ true) ⊎ (of_frame (of_word (ack_of number)) (e.slot t) ≡ true)
        due-at true q = (turn t a b).asked number small (inl (same t a b q))
        due-at false q = elim (cases_lt x t) [
          | inl l ↦ (turn t a b).asked number small (inr (
            ap (λ y. pends_of number (e.account y).their_breaks.ack) (omega (arith, l))
                ∙ all (t - 1) (omega (arith, l)) (omega (arith, l)),
            q,
          ))
          | inr g ↦ (turn t a b).asked number small
              (inl (ap (λ y. of_arrived (of_word (brk_of number)) (e.heard y)) (omega (arith, a, g)) ∙ asks))
        ]
