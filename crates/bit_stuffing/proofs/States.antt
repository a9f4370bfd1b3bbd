-- The counters along flags and contents.
use Rattle.bit_stuffing.proofs.Names.{◌≡◌, ℕ, zero, suc, ◌+◌, ◌-◌, ◌/◌, ◌%◌, ◌<◌, ◌≤◌, min, Bool, true, false, if◌then◌else◌, List, [], ◌∷◌}
use Rattle.bit_stuffing.proofs.Names.{◌++◌, length, take, drop, Some, None, arith, refl, ap, flag, flags, fill}
use Rattle.bit_stuffing.proofs.Names.{rest_of_flag, stuffed}
use Rattle.bit_stuffing.proofs.Latest.{below8}
use Rattle.bit_stuffing.proofs.Counters.{Counters, step, run, Still, run-append, still-append, still-of, Below6, few_not, run-both}

-- the states between slots: behind so many bits of a flag, or behind ones

abbrev pub open_at : ℕ → Counters
open_at phase = record { ones = phase - 1; since = Some phase }

abbrev pub shut : Counters
shut = record { ones = 7; since = None }

pub flag-open : (run (open_at 0) flag ≡ open_at 0) × Still (open_at 0) flag
flag-open = (refl, still-of (open_at 0) flag refl)

pub run-flags : (n : ℕ) → (run (open_at 0) (flags n) ≡ open_at 0) × Still (open_at 0) (flags n)
run-flags zero = (refl, tt)
run-flags (suc n) =
    let r = run-flags n in grind (arith, run-append, flags, run, flag-open, still-append)

-- the states along bits in which no flag ends
abbrev pub Goes : ℕ → ℕ → List Bool → Type 0
Goes ones count s = Below6 (record { ones = ones; since = Some count }) s
    × ((e : ℕ) × (e ≤ 5) ×
    (run (record { ones = ones; since = Some count }) s ≡ record { ones = e; since = Some (min 8 (count + length s)) }))

step-is : (ones count : ℕ) (b : Bool) → ones < 6
    → step (record { ones = ones; since = Some count })
    b ≡ record { ones = if b then min ones 6 + 1 else 0; since = Some (min count 7 + 1) }
step-is ones count b few = grind (arith, few_not)

goes-more : (ones count next : ℕ) (b : Bool) (s : List Bool) → ones < 6 → count ≤ 8 → (if b then min ones 6 + 1 else 0) ≡ next
    → Goes next (min count 7 + 1) s → Goes ones count (b ∷ s)
goes-more ones count next b s few low e g = grind (arith, step, step-is, run)

-- the content of a frame
pub run-stuffed : (room : ℕ) (m : List Bool) (ones count : ℕ) → ones + room ≡ 5 → count ≤ 8 → Goes ones count (stuffed room m)
run-stuffed zero [] ones count sum low = grind (arith, goes-more)
run-stuffed zero (true ∷ m) ones count sum low =
    goes-more ones count 0 false (true ∷ stuffed 4 m) (omega arith) low refl
    (goes-more 0 (min count 7 + 1) 1 true (stuffed 4 m) (omega arith) (omega arith) refl
    (run-stuffed 4 m 1 (min (min count 7 + 1) 7 + 1) refl (omega arith)))
run-stuffed zero (false ∷ m) ones count sum low =
    goes-more ones count 0 false (false ∷ stuffed 5 m) (omega arith) low refl
    (goes-more 0 (min count 7 + 1) 0 false (stuffed 5 m) (omega arith) (omega arith) refl
    (run-stuffed 5 m 0 (min (min count 7 + 1) 7 + 1) refl (omega arith)))
run-stuffed (suc room) [] ones count sum low = let e : count ≡ min 8 (count + 0) = omega arith in
    (tt, (ones, omega arith, ap (λ c. record { ones = ones; since = Some c }) e))
run-stuffed (suc room) (true ∷ m) ones count sum low =
    goes-more ones count (ones + 1) true (stuffed room m) (omega arith) low (omega arith)
    (run-stuffed room m (ones + 1) (min count 7 + 1) (omega arith) (omega arith))
run-stuffed (suc room) (false ∷ m) ones count sum low =
    goes-more ones count 0 false (stuffed 5 m) (omega arith) low refl (run-stuffed 5 m 0 (min count 7 + 1) refl (omega arith))

-- a flag without its last zero
abbrev pub seven : List Bool
seven = false ∷ true ∷ true ∷ true ∷ true ∷ true ∷ true ∷ []

pub run-seven : (ones count : ℕ) → ones < 6 → 1 ≤ count → count ≤ 8
    → Below6 (record { ones = ones; since = Some count }) seven
    × (run (record { ones = ones; since = Some count }) seven ≡ record { ones = 6; since = Some 8 })
run-seven ones count few low high = grind (arith, step-is, run)

-- a flag that is cut, and the rest of it
pub run-cut : (j : ℕ) → j < 8 → (run (open_at 0) (take j flag) ≡ open_at j) × Still (open_at 0) (take j flag)
run-cut = below8 (λ j. (run (open_at 0) (take j flag) ≡ open_at j) × Still (open_at 0) (take j flag))
    (refl, tt)
    (refl, still-of (open_at 0) (take 1 flag) refl)
    (refl, still-of (open_at 0) (take 2 flag) refl)
    (refl, still-of (open_at 0) (take 3 flag) refl)
    (refl, still-of (open_at 0) (take 4 flag) refl)
    (refl, still-of (open_at 0) (take 5 flag) refl)
    (refl, still-of (open_at 0) (take 6 flag) refl)
    (refl, still-of (open_at 0) (take 7 flag) refl)

run-rest : (j : ℕ) → j < 8 → (run (open_at j) (rest_of_flag j) ≡ open_at 0) × Still (open_at j) (rest_of_flag j)
run-rest = below8 (λ j. (run (open_at j) (rest_of_flag j) ≡ open_at 0) × Still (open_at j) (rest_of_flag j))
    (refl, tt)
    (refl, still-of (open_at 1) (drop 1 flag) refl)
    (refl, still-of (open_at 2) (drop 2 flag) refl)
    (refl, still-of (open_at 3) (drop 3 flag) refl)
    (refl, still-of (open_at 4) (drop 4 flag) refl)
    (refl, still-of (open_at 5) (drop 5 flag) refl)
    (refl, still-of (open_at 6) (drop 6 flag) refl)
    (refl, still-of (open_at 7) (drop 7 flag) refl)

pub run-fill : (n : ℕ) → (run (open_at 0) (fill n) ≡ open_at (n % 8)) × Still (open_at 0) (fill n)
run-fill n =
    let f = run-flags (n / 8) in
    let r = run-cut (n % 8) (omega arith) in grind (arith, run-append, flags, run, still-append)

-- The state behind slots, and the flag phase: flags came last, or ones, or nothing did.
abbrev pub Between : Bool → Counters → ℕ → Type 0
Between true k phase = (k ≡ open_at phase) × (phase < 8)
Between false k phase = (k ≡ shut) × (phase ≡ 0)

-- the flags at the head of a slot
pub run-opens : (behind : Bool) (k : Counters) (phase : ℕ) → Between behind k phase
    → (run k (rest_of_flag phase ++ flags 4) ≡ open_at 0) × Still k (rest_of_flag phase ++ flags 4)
run-opens true k phase (e, h) =
    rw e (run-both (open_at phase) (open_at 0) (open_at 0) (rest_of_flag phase) (flags 4) (run-rest phase h) (run-flags 4))
run-opens false k phase (e, z) = rw (e, z) (refl, still-of shut (flags 4) refl)

-- a flag slot without a frame
pub run-empty : (behind : Bool) (n phase : ℕ) (k : Counters) → Between behind k phase
    → (run k (rest_of_flag phase ++ flags 4 ++ [] ++ fill n) ≡ open_at (n % 8)) × Still k (rest_of_flag phase ++ flags 4 ++ [] ++ fill n)
run-empty behind n phase k between =
    run-both k (open_at 0) (open_at (n % 8)) (rest_of_flag phase ++ flags 4 ++ []) (fill n)
    (run-both k (open_at 0) (open_at 0) (rest_of_flag phase ++ flags 4) [] (run-opens behind k phase between) (refl, tt)) (run-fill n)
