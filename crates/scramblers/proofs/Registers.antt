-- A register of the latest bits takes more of them.
use Rattle.scramblers.proofs.Names.{◌≡◌, ℕ, zero, suc, ◌+◌, ◌-◌, ◌*◌, ◌/◌, ◌%◌, ◌^◌, ◌<◌, ◌≤◌, ◌⊎◌, inl, inr, Bool, true, false, List, []}
use Rattle.scramblers.proofs.Names.{◌∷◌, ◌++◌, length, arith, refl, sym, ◌∙◌, ap, subst, nat_eq, cases_lt, bit_at_cat_low, bit_at_cat_high}
use Rattle.scramblers.proofs.Names.{bit_at_lowest, bit_at-suc, bit_at, low_bits, number, Holds, earlier}
use Rattle.std.proofs.Common.{mod-lt, pow_pos}
use Rattle.std.proofs.lemmas.Nat.{shr_split}
use Rattle.scramblers.proofs.Streams.{earlier-last, earlier-more, four-behind}

-- the low bits of a number are those of its remainder
pub bit_at-rem : (n k i : ℕ) → i < k → bit_at (n % 2 ^ k) i ≡ bit_at n i
bit_at-rem n k i h = let e : n ≡ n / 2 ^ k * 2 ^ k + n % 2 ^ k = sym (shr_split n k) in
    sym (ap (λ x. bit_at x i) e ∙ bit_at_cat_low (n / 2 ^ k) k (n % 2 ^ k) i h)

-- and the others are those of its quotient
pub bit_at-quotient : (n k i : ℕ) → bit_at (n / 2 ^ k) i ≡ bit_at n (k + i)
bit_at-quotient n k i =
    let e : n / 2 ^ k * 2 ^ k + n % 2 ^ k ≡ n = shr_split n k in
    ap (bit_at (n / 2 ^ k)) (omega arith) ∙ sym (bit_at_cat_high (n / 2 ^ k) k (n % 2 ^ k) (k + i) (mod-lt n (pow_pos k)) (omega arith))
    ∙ ap (λ x. bit_at x (k + i)) e

number-lt : (b : Bool) → number b < 2
number-lt true = omega arith
number-lt false = omega arith

-- the highest bit after a shift is the new one, and each other moves down
shifted-highest : (r n : ℕ) → r < 4294967296 → n < 2 → bit_at (r / 2 + n * 2147483648) 31 ≡ n
shifted-highest r n low small =
    let whole : r / 2 + n * 2147483648 ≡ n * 2 ^ 31 + r / 2 = omega arith in
    ap (λ x. bit_at x 31) whole ∙ bit_at_cat_high n 31 (r / 2) 31 (omega arith) (omega arith) ∙ bit_at_lowest n ∙ omega arith

shifted-other : (r n k : ℕ) → k < 31 → bit_at (r / 2 + n * 2147483648) k ≡ bit_at r (suc k)
shifted-other r n k within =
    let whole : r / 2 + n * 2147483648 ≡ n * 2 ^ 31 + r / 2 = omega arith in
    ap (λ x. bit_at x k) whole ∙ bit_at_cat_low n 31 (r / 2) k within ∙ sym (bit_at-suc r k)

-- the register holds the line with one more bit
pub Holds-shifted : (r n : ℕ) (line : List Bool) (bit : Bool) → r < 4294967296 → n ≡ number bit → Holds r line
    → Holds (r / 2 + n * 2147483648) (line ++ bit ∷ [])
Holds-shifted r n line bit fits e h = record { recent = λ places low high. first_or_later places low high (cases_lt 1 places) }
  where
    small : n < 2
    small = rw e (number-lt bit)

    first_or_later : (places : ℕ) → 1 ≤ places → places ≤ 23 → (1 < places) ⊎ (places ≤ 1)
        → bit_at (r / 2 + n * 2147483648) (32 - places) ≡ number (earlier (line ++ bit ∷ []) (length (line ++ bit ∷ [])) places)
    first_or_later places low high (inl later) =
        let up : suc (32 - places) ≡ 32 - (places - 1) = omega arith in
        let back : (places - 1) + 1 ≡ places = omega arith in
        let seen = ap number (earlier-more line bit (places - 1) (omega arith)) in
        shifted-other r n (32 - places) (omega arith) ∙ ap (bit_at r) up ∙ h.recent (places - 1) (omega arith) (omega arith)
        ∙ sym (rw back at seen)
    first_or_later places low high (inr first) =
        let one : places ≡ 1 = omega arith in
        rw one (shifted-highest r n fits small ∙ e ∙ ap number (sym (earlier-last line bit)))

-- a bit of a number, as it stands in a list of them
abbrev pub has_bit : ℕ → ℕ → Bool
has_bit n i = nat_eq (bit_at n i) 1

-- the lowest four
pub low_four : (n : ℕ) → low_bits 4 n ≡ has_bit n 0 ∷ has_bit n 1 ∷ has_bit n 2 ∷ has_bit n 3 ∷ []
low_four n =
    let b0 : n % 2 ≡ bit_at n 0 = sym (bit_at_lowest n) in
    let b1 : n / 2 % 2 ≡ bit_at n 1 = sym (bit_at-suc n 0 ∙ bit_at_lowest (n / 2)) in
    let b2 : n / 2 / 2 % 2 ≡ bit_at n 2 = sym (bit_at-suc n 1 ∙ bit_at-suc (n / 2) 0 ∙ bit_at_lowest (n / 2 / 2)) in
    let b3 : n / 2 / 2 / 2 % 2 ≡ bit_at n 3 =
    sym (bit_at-suc n 2 ∙ bit_at-suc (n / 2) 1 ∙ bit_at-suc (n / 2 / 2) 0 ∙ bit_at_lowest (n / 2 / 2 / 2)) in
    ap (λ x. nat_eq x 1 ∷ nat_eq (n / 2 % 2) 1 ∷ nat_eq (n / 2 / 2 % 2) 1 ∷ nat_eq (n / 2 / 2 / 2 % 2) 1 ∷ []) b0
    ∙ ap (λ x. has_bit n 0 ∷ nat_eq x 1 ∷ nat_eq (n / 2 / 2 % 2) 1 ∷ nat_eq (n / 2 / 2 / 2 % 2) 1 ∷ []) b1
    ∙ ap (λ x. has_bit n 0 ∷ has_bit n 1 ∷ nat_eq x 1 ∷ nat_eq (n / 2 / 2 / 2 % 2) 1 ∷ []) b2
    ∙ ap (λ x. has_bit n 0 ∷ has_bit n 1 ∷ has_bit n 2 ∷ nat_eq x 1 ∷ []) b3

-- a bit that is 0 or 1 is the number of its truth value
pub bit-number : (m : ℕ) → m < 2 → m ≡ number (nat_eq m 1)
bit-number m low = go m low
  where
    go : (m : ℕ) → m < 2 → m ≡ number (nat_eq m 1)
    go zero low = refl
    go (suc zero) low = refl
    go (suc (suc m)) low = absurd (omega (arith, low))

-- the register holds the line with four more bits
pub Holds-four : (r four : ℕ) (line : List Bool) → r < 4294967296 → four < 16 → Holds r line
    → Holds (r / 16 + four * 268435456) (line ++ low_bits 4 four)
Holds-four r four line fits few h =
    let n0 : ℕ = four % 2 in
    let n1 : ℕ = four / 2 % 2 in
    let n2 : ℕ = four / 2 / 2 % 2 in
    let n3 : ℕ = four / 2 / 2 / 2 % 2 in
    let r1 : ℕ = r / 2 + n0 * 2147483648 in
    let r2 : ℕ = r1 / 2 + n1 * 2147483648 in
    let r3 : ℕ = r2 / 2 + n2 * 2147483648 in
    let r4 : ℕ = r3 / 2 + n3 * 2147483648 in
    let h1 = Holds-shifted r n0 line (nat_eq n0 1) fits (bit-number n0 (omega arith)) h in
    let h2 = Holds-shifted r1 n1 _ (nat_eq n1 1) (omega arith) (bit-number n1 (omega arith)) h1 in
    let h3 = Holds-shifted r2 n2 _ (nat_eq n2 1) (omega arith) (bit-number n2 (omega arith)) h2 in
    let h4 = Holds-shifted r3 n3 _ (nat_eq n3 1) (omega arith) (bit-number n3 (omega arith)) h3 in
    let same : r4 ≡ r / 16 + four * 268435456 = omega (arith, fits, few) in
    subst (λ (x : ℕ). Holds x (line ++ low_bits 4 four)) same
    (subst (Holds r4) (four-behind line (nat_eq n0 1) (nat_eq n1 1) (nat_eq n2 1) (nat_eq n3 1)) h4)
