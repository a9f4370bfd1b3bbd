-- A starved run has many lost slots: each lies in two spans at most.
use Rattle.turn_losses.proofs.Names.{inl, inr, ◌≡◌, ◌≢◌, ℕ, zero, suc, ◌+◌, ◌-◌, ◌*◌, ◌<◌, ◌≤◌, ◌&&◌, ◌||◌, Bool, true, false, max, nat_lt}
use Rattle.turn_losses.proofs.Names.{nat_le, List, [], ◌∷◌, length, arith, refl, ap, subst, Some, cases_lt, nat_tests, Originator, Answerer}
use Rattle.turn_losses.proofs.Names.{Heard, Turn, LosesSome, SpanLoses, IsLost, turn_at, is_lost, or-late, and-true, and-two}
use Rattle.link_run.specs.Counts.{lost_in, lost_slots}
use Rattle.turn_bound.proofs.Value.{one_if}
use Rattle.turn_losses.specs.Losses.{StarvedLosesMany, LosslessIsFed}
use Rattle.turn_losses.proofs.Periods.{later-turn}
use Rattle.turn_bound.proofs.Lines.{one-most}

-- how many numbers below that one meet a test
abbrev count_of : ℕ → (ℕ → Bool) → ℕ
count_of zero test = 0
count_of (suc n) test = count_of n test + one_if (test n)

count-none : (n : ℕ) (test : ℕ → Bool) → ((m : ℕ) → m < n → test m ≡ false) → count_of n test ≡ 0
count-none zero test h = refl
count-none (suc n) test h = let k = count-none n test (λ m l. h m (omega (arith, l))) in let e = ap one_if (h n (omega arith)) in
    omega (arith, k, e)

count-or : (n : ℕ) (a b : ℕ → Bool) → count_of n (λ m. a m || b m) ≤ count_of n a + count_of n b
count-or zero a b = omega arith
count-or (suc n) a b = grind (arith, count-or n a b)

-- where only the last one may meet it
count-last : (n : ℕ) (test : ℕ → Bool) → ((m : ℕ) → m < n → test m ≡ true → n ≤ m + 1) → count_of n test ≤ 1
count-last n test h = grind (arith, count-none, one-most)

-- where two that meet it follow one another
count-near : (n : ℕ) (test : ℕ → Bool) → ((m k : ℕ) → m < k → k < n → test m ≡ true → test k ≡ true → k ≤ m + 1) → count_of n test ≤ 2
count-near zero test h = omega arith
count-near (suc n) test h = go (test n) refl (count-near n test (λ m k l g. h m k l (omega (arith, g))))
  where
    go : (b : Bool) → test n ≡ b → count_of n test ≤ 2 → count_of n test + one_if (test n) ≤ 2
    go b q b2 = grind (arith, count-last)

count-all : (n : ℕ) (test : ℕ → Bool) → ((m : ℕ) → m < n → test m ≡ true) → count_of n test ≡ n
count-all zero test h = refl
count-all (suc n) test h = let k = count-all n test (λ m l. h m (omega (arith, l))) in let e = ap one_if (h n (omega arith)) in
    omega (arith, k, e)

-- where all but one meet it
count-but : (n spared : ℕ) (test : ℕ → Bool) → ((m : ℕ) → m < n → m ≢ spared → test m ≡ true) → n ≤ count_of n test + 1
count-but zero spared test h = omega arith
count-but (suc n) spared test h = go (count-but n spared test (λ m l d. h m (omega (arith, l)) d))
  where
    other : n ≤ count_of n test + 1 → n ≢ spared → suc n ≤ count_of n test + one_if (test n) + 1
    other b d = let e = ap one_if (h n (omega arith) d) in omega (arith, e, b)

    apart-below : n < spared → n ≢ spared
    apart-below l e = omega (arith, e, l)

    apart-above : spared < n → n ≢ spared
    apart-above l e = omega (arith, e, l)

    last : n ≡ spared → suc n ≤ count_of n test + one_if (test n) + 1
    last e = let k = count-all n test (λ m l. h m (omega (arith, l)) (λ q. omega (arith, q, e, l))) in omega (arith, k)

    go : n ≤ count_of n test + 1 → suc n ≤ count_of n test + one_if (test n) + 1
    go b = grind (arith, other, apart-below, apart-above, last)

-- whether a turn lies in a span, and whether something was lost in it
abbrev in_span : (period delay last turn span : ℕ) → Bool
in_span period delay last turn span = nat_lt last (turn + (span + 1) * period + delay) && nat_le (turn + span * period) last

abbrev loses : Turn → Bool
loses t = is_lost t.orig.heard || is_lost t.answ.heard

abbrev covers : (period delay last : ℕ) → List Turn → ℕ → Bool
covers period delay last [] span = false
covers period delay last (t ∷ ts) span = (loses t && in_span period delay last (length ts) span) || covers period delay last ts span

spans-near : (period delay last turn m k : ℕ) → delay < period → m < k → in_span period delay last turn m ≡ true
    → in_span period delay last turn k ≡ true → k ≤ m + 1
spans-near period delay last turn m k short less em ek = elim (cases_lt (m + 1) k) [ inl l ↦ absurd (far l) | inr g ↦ g ]
  where
    xm : (nat_lt last (turn + (m + 1) * period + delay) ≡ true) × (nat_le (turn + m * period) last ≡ true)
    xm = and-two _ _ em

    xk : (nat_lt last (turn + (k + 1) * period + delay) ≡ true) × (nat_le (turn + k * period) last ≡ true)
    xk = and-two _ _ ek

    behind : last < turn + (m + 1) * period + delay
    behind = let e = xm.0 in grind (arith, nat_tests, e)

    before : turn + k * period ≤ last
    before = let e = xk.1 in grind (arith, nat_tests, e)

    spread : (a b : ℕ) → a * period + b * period ≡ (a + b) * period
    spread a b = grind (arith)

    far : m + 1 < k → ⊥
    far l =
        let sum : (m + 2) * period + (k - (m + 2)) * period ≡ k * period = grind (arith, spread) in
        let next : (m + 2) * period ≡ (m + 1) * period + period = omega arith in grind (arith, behind, before, short)

lost-one : (h : Heard) → is_lost h ≡ true → lost_in h ≡ 1
lost-one p e = grind (arith)

-- the spans that losses cover
covers-few : (period delay last n : ℕ) → delay < period → (ts : List Turn) → count_of n (covers period delay last ts) ≤ 2 * lost_slots ts
covers-few period delay last n short [] = let k = count-none n (covers period delay last []) (λ m l. refl) in omega (arith, k)
covers-few period delay last n short (t ∷ ts) =
    go (is_lost t.orig.heard) (is_lost t.answ.heard) refl refl (covers-few period delay last n short ts)
  where
    here : ℕ → Bool
    here span = loses t && in_span period delay last (length ts) span

    all : count_of n (covers period delay last (t ∷ ts)) ≤ count_of n here + count_of n (covers period delay last ts)
    all = count-or n here (covers period delay last ts)

    two : count_of n here ≤ 2
    two = grind (arith, count-near, spans-near, and-two)

    go : (x y : Bool) → is_lost t.orig.heard ≡ x → is_lost t.answ.heard ≡ y → count_of n (covers period delay last ts) ≤ 2 * lost_slots ts
        → count_of n (covers period delay last (t ∷ ts)) ≤ 2 * (lost_slots ts + lost_in t.orig.heard + lost_in t.answ.heard)
    go true y p q r = let one = lost-one t.orig.heard p in let a = all in let b = two in omega (arith, one, a, b, r)
    go false true p q r = let one = lost-one t.answ.heard q in let a = all in let b = two in omega (arith, one, a, b, r)
    go false false p q r = grind (arith, count-none)

is-loss : (h : Heard) → IsLost h → is_lost h ≡ true
is-loss p e = grind (arith)

loses-turn : (t : Turn) → LosesSome (Some t) → loses t ≡ true
loses-turn t x = grind (arith, is-loss)

covers-loss : (period delay last span : ℕ) (ts : List Turn) (turn : ℕ) → turn < length ts → LosesSome (turn_at turn ts)
    → in_span period delay last turn span ≡ true → covers period delay last ts span ≡ true
covers-loss period delay last span [] turn l h e = absurd (omega (arith, l))
covers-loss period delay last span (t ∷ ts) turn l h e = elim (cases_lt turn (length ts)) [
  | inl less ↦ later (covers-loss period delay last span ts turn less (subst LosesSome (later-turn turn t ts less) h) e)
  | inr more ↦ here (omega (arith, l, more))
]
  where
    later : covers period delay last ts span ≡ true → covers period delay last (t ∷ ts) span ≡ true
    later q = or-late (loses t && in_span period delay last (length ts) span) (covers period delay last ts span) q

    here : turn ≡ length ts → covers period delay last (t ∷ ts) span ≡ true
    here q = grind (arith, loses-turn)

pub starved-loses-many : StarvedLosesMany
starved-loses-many tries period delay link ts kt h =
    let many = count-but (tries + 1) h.spared (covers period d last ts) (λ n l other. covered n (h.each n (omega (arith, l)) other)) in
    let few = covers-few period d last (tries + 1) short ts in
    omega (arith, many, few)
  where
    d : ℕ
    d = max (delay Originator) (delay Answerer)

    last : ℕ
    last = length ts - 1

    short : d < period
    short = let p = kt.period_is in omega (arith, p)

    covered : (n : ℕ) → SpanLoses period d ts n → covers period d last ts n ≡ true
    covered n s = grind (arith, covers-loss, and-true)

pub lossless-is-fed : LosslessIsFed
lossless-is-fed tries period delay link ts kt none h = let many = starved-loses-many tries period delay link ts kt h in let some =
    kt.some_tries in omega (arith, many, some, none)
