-- Turning and unturning undo each other.
use Rattle.trellis_tables.proofs.Names.{◌≡◌, ℕ, zero, suc, ◌+◌, ◌-◌, ◌%◌, ◌<◌, ◌≤◌, List, length, get_or, map, take, sum, arith, refl, sym}
use Rattle.trellis_tables.proofs.Names.{◌∙◌, ap, length-take, nat_tests, common_steps, ext_get_or, get_or-take, length-map, AreTurns}
use Rattle.trellis_tables.proofs.Names.{turned, before, unturned}
use Rattle.std.proofs.Common.{add-one}
use Rattle.std.proofs.lemmas.List.{take-take}
use Rattle.trellis_tables.proofs.Turning.Places.{length-turned, length-unturned, get_or-turned, get_or-unturned, sum-take_more}

before-suc : (y : List ℕ) (n : ℕ) → before y (n + 1) ≡ get_or y n 0
before-suc y n = grind (arith, nat_tests)

-- one turn more on a sum, and back
more_mod : (s x : ℕ) → (s + x) % 4 ≡ (s % 4 + x) % 4
more_mod s x = omega arith

back_mod : (s x : ℕ) → x < 4 → ((s + x) % 4 + 4 - s % 4) % 4 ≡ x
back_mod s x small = omega arith

again_mod : (before now : ℕ) → before < 4 → now < 4 → (before + (now + 4 - before) % 4) % 4 ≡ now
again_mod before now small small_now = omega arith

both_mod : (a b k : ℕ) → a < 4 → b < 4 → ((b + k) % 4 + 4 - (a + k) % 4) % 4 ≡ (b + 4 - a) % 4
both_mod a b k small small_now = omega arith

-- what stands before a place of what was turned is the sum up to it
before-turned : (q : List ℕ) (n : ℕ) → n ≤ length q → before (turned q) n ≡ sum (take n q) % 4
before-turned q zero within = omega arith
before-turned q (suc n) within = grind (arith, add-one, before-suc, get_or-turned)

pub goes_on : (q : List ℕ) (n : ℕ) → n < length q → get_or (turned q) n 0 ≡ (before (turned q) n + get_or q n 0) % 4
goes_on q n within = grind (arith, get_or-turned, sum-take_more, more_mod, before-turned)

pub unturned-turned : (q : List ℕ) → AreTurns q → unturned (turned q) ≡ q
unturned-turned q small = ext_get_or 0 (unturned (turned q)) q (length-unturned (turned q) ∙ length-turned q) each
  where
    each : (n : ℕ) → n < length (unturned (turned q)) → get_or (unturned (turned q)) n 0 ≡ get_or q n 0
    each n within =
        let inside : n < length q = omega (arith, length-unturned (turned q), length-turned q) in
        get_or-unturned (turned q) n (omega (arith, length-turned q))
        ∙ rw (get_or-turned q n inside, before-turned q n (omega arith), sum-take_more q n inside)
        (back_mod (sum (take n q)) (get_or q n 0) (small n 0 inside))

-- the sum of what was read is where the line stands
sum-unturned : (y : List ℕ) (n : ℕ) → AreTurns y → n ≤ length y → sum (take n (unturned y)) % 4 ≡ before y n
sum-unturned y zero small within = omega arith
sum-unturned y (suc n) small within =
    let e : suc n ≡ n + 1 = sym (add-one n) in
    let so_far : sum (take n (unturned y)) % 4 ≡ before y n = sum-unturned y n small (omega arith) in
    rw e (next so_far)
  where
    inside : n < length y
    inside = omega arith

    before_small : (n : ℕ) → n < length y → before y n < 4
    before_small zero h = omega arith
    before_small (suc m) h = let e : suc m ≡ m + 1 = sym (add-one m) in rw (e, before-suc y m) (small m 0 (omega arith))

    next : sum (take n (unturned y)) % 4 ≡ before y n → sum (take (n + 1) (unturned y)) % 4 ≡ before y (n + 1)
    next so_far =
        ap (λ s. s % 4) (sum-take_more (unturned y) n (omega (arith, length-unturned y)))
        ∙ more_mod (sum (take n (unturned y))) (get_or (unturned y) n 0)
        ∙ rw (so_far, get_or-unturned y n inside, before-suc y n)
        (again_mod (before y n) (get_or y n 0) (before_small n inside) (small n 0 inside))

pub turned-unturned : (y : List ℕ) → AreTurns y → turned (unturned y) ≡ y
turned-unturned y small = ext_get_or 0 (turned (unturned y)) y (length-turned (unturned y) ∙ length-unturned y) each
  where
    each : (n : ℕ) → n < length (turned (unturned y)) → get_or (turned (unturned y)) n 0 ≡ get_or y n 0
    each n within =
        let inside : n < length y = omega (arith, length-turned (unturned y), length-unturned y) in
        get_or-turned (unturned y) n (omega (arith, length-unturned y)) ∙ sum-unturned y (n + 1) small (omega arith) ∙ before-suc y n

-- places before n do not see what follows
pub turned-take : (q : List ℕ) (n : ℕ) → turned (take n q) ≡ take n (turned q)
turned-take q n = ext_get_or 0 (turned (take n q)) (take n (turned q)) long each
  where
    long : length (turned (take n q)) ≡ length (take n (turned q))
    long = length-turned (take n q) ∙ rw (length-take n q, length-take n (turned q), length-turned q) refl

    each : (i : ℕ) → i < length (turned (take n q)) → get_or (turned (take n q)) i 0 ≡ get_or (take n (turned q)) i 0
    each i within =
        let short : i < length (take n q) = omega (arith, length-turned (take n q)) in
        let below : i < n = omega (arith, length-take n q) in
        let inside : i < length q = omega (arith, length-take n q) in
        get_or-turned (take n q) i short ∙ ap (λ l. sum l % 4) (take-take (i + 1) n q (omega arith)) ∙ sym (get_or-turned q i inside)
        ∙ sym (get_or-take n (turned q) i 0 below)

before-take : (y : List ℕ) (n i : ℕ) → i ≤ n → before (take n y) i ≡ before y i
before-take y n i within = grind (arith, common_steps, nat_tests)

pub unturned-take : (y : List ℕ) (n : ℕ) → unturned (take n y) ≡ take n (unturned y)
unturned-take y n = ext_get_or 0 (unturned (take n y)) (take n (unturned y)) long each
  where
    long : length (unturned (take n y)) ≡ length (take n (unturned y))
    long = length-unturned (take n y) ∙ rw (length-take n y, length-take n (unturned y), length-unturned y) refl

    each : (i : ℕ) → i < length (unturned (take n y)) → get_or (unturned (take n y)) i 0 ≡ get_or (take n (unturned y)) i 0
    each i within =
        let short : i < length (take n y) = omega (arith, length-unturned (take n y)) in
        let below : i < n = omega (arith, length-take n y) in
        let inside : i < length y = omega (arith, length-take n y) in
        get_or-unturned (take n y) i short ∙ rw (get_or-take n y i 0 below, before-take y n i (omega arith)) refl
        ∙ sym (get_or-unturned y i inside) ∙ sym (get_or-take n (unturned y) i 0 below)

-- the difference of two numbers that were both turned
pub forgets : (y : List ℕ) (k n : ℕ) → AreTurns y → 1 ≤ n → n < length y
    → get_or (unturned (map (λ v. (v + k) % 4) y)) n 0 ≡ get_or (unturned y) n 0
forgets y k zero small some within = absurd (omega arith)
forgets y k (suc m) small some within =
    let place : m + 1 < length y = omega arith in
    let e : suc m ≡ m + 1 = sym (add-one m) in
    rw e (get_or-unturned (map (λ v. (v + k) % 4) y) (m + 1) (omega (arith, length-map y (λ v. (v + k) % 4)))
    ∙ rw (mapped (m + 1) place, before-suc (map (λ v. (v + k) % 4) y) m, mapped m (omega arith), ← before-suc y m)
    (both_mod (before y (m + 1)) (get_or y (m + 1) 0) k (rw (before-suc y m) (small m 0 (omega arith))) (small (m + 1) 0 place))
    ∙ sym (get_or-unturned y (m + 1) place))
  where
    mapped : (i : ℕ) → i < length y → get_or (map (λ v. (v + k) % 4) y) i 0 ≡ (get_or y i 0 + k) % 4
    mapped i h = grind (arith, common_steps)
