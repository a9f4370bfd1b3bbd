-- The register after one more bit holds the next remainder.
use Rattle.frame_check.proofs.Names.{◌^◌, get_or, take, ◌≡◌, ℕ, zero, suc, ◌+◌, ◌-◌, ◌*◌, ◌/◌, ◌%◌, ◌<◌, ◌≤◌, inl, inr, Bool, true, false}
use Rattle.frame_check.proofs.Names.{List, ◌∷◌, length, arith, refl, sym, ◌∙◌, ap, subst, cond, if◌then◌else◌, nat_eq, slice_index_or}
use Rattle.frame_check.proofs.Names.{bit_xor, pow-succ', cases_lt, bit_at-suc, bit_at_lowest, bit_at, number, low_bits, octet_bits, bits_of}
use Rattle.frame_check.proofs.Names.{next_remainder, remainder_from, coefficient, Mirrors, Holds, Divides, AreFours, xor}
use Rattle.std.proofs.Common.{bit_and}
use Rattle.std.proofs.lemmas.Nat.Bits.{bit_at-zero, bit_at_above, bit_at_xor, same_from_bits}
use Rattle.std.proofs.lemmas.Nat.{pow_pos, xor_comm, xor_lt, xor_shr, xor_block, and_mask}
use Rattle.frame_check.specs.Register.{after_zero, after_zeros}
use Rattle.frame_check.proofs.Polynomials.{xor_false, coefficient-behind, coefficient-lowest, at_power-other, coefficient-chosen}
use Rattle.frame_check.proofs.Remainders.{is_taken, length-next, coefficient-next, remainder_from-append}
use Rattle.frame_check.proofs.BitLists.{bits_of-snoc}
use Rattle.std.proofs.lemmas.List.{take_more}

number-xor : (a b : Bool) → (number a + number b) % 2 ≡ number (xor a b)
number-xor true true = refl
number-xor true false = refl
number-xor false true = refl
number-xor false false = refl

tested : (b : Bool) → nat_eq (number b) 1 ≡ b
tested true = refl
tested false = refl

-- half the register has x times the polynomial below the width
halved : (w r : ℕ) (p : List Bool) → 0 < w → Mirrors w r p → (j : ℕ) → j < w
    → bit_at (r / 2) (w - 1 - j) ≡ number (coefficient (false ∷ p) j)
halved w r p positive h j within = elim (cases_lt 0 j) [ inl later ↦ other later | inr z ↦ first z ]
  where
    first : j ≤ 0 → bit_at (r / 2) (w - 1 - j) ≡ number (coefficient (false ∷ p) j)
    first z =
        let n : suc (w - 1 - j) ≡ w = omega arith in
        let none : coefficient (false ∷ p) j ≡ false = coefficient-lowest false p j z in
        sym (bit_at-suc r (w - 1 - j)) ∙ rw (n, none) (bit_at_above r w w h.low (omega arith))

    other : 0 < j → bit_at (r / 2) (w - 1 - j) ≡ number (coefficient (false ∷ p) j)
    other later =
        let n : suc (w - 1 - j) ≡ w - 1 - (j - 1) = omega arith in
        let before : coefficient (false ∷ p) j ≡ coefficient p (j - 1) = coefficient-behind false p j later in
        sym (bit_at-suc r (w - 1 - j)) ∙ rw (n, before) (h.each (j - 1) (omega arith))

-- a bit that is 0 or 1
number_is : (n : ℕ) → n < 2 → number (nat_eq n 1) ≡ n
number_is zero h = refl
number_is (suc zero) h = refl
number_is (suc (suc n)) h = absurd (omega arith)

odd_sum : (r n : ℕ) (c : Bool) → r % 2 ≡ number c → nat_eq ((r + n) % 2) 1 ≡ xor c (nat_eq (n % 2) 1)
odd_sum r n c h =
    let bit = nat_eq (n % 2) 1 in
    let sum : (r + n) % 2 ≡ (number c + number bit) % 2 = omega (arith, h, number_is (n % 2) (omega arith)) in
    ap (λ x. nat_eq x 1) (sum ∙ number-xor c bit) ∙ tested (xor c bit)

-- the low bit of the register and the one that goes in say whether the generator is taken away
taken_is : (w r n : ℕ) (p : List Bool) → 0 < w → Mirrors w r p → nat_eq ((r + n) % 2) 1 ≡ is_taken w p (nat_eq (n % 2) 1)
taken_is w r n p positive h =
    let here : coefficient (false ∷ p) w ≡ coefficient p (w - 1) = coefficient-behind false p w positive in
    let none : w - 1 - (w - 1) ≡ 0 = omega arith in
    let low : bit_at r 0 ≡ number (coefficient p (w - 1)) = rw none at (h.each (w - 1) (omega arith)) in
    rw here (odd_sum r n (coefficient p (w - 1)) (sym (bit_at_lowest r) ∙ low))

-- the next remainder's coefficients below the width
next_below : (w : ℕ) (g p : List Bool) (b : Bool) → length p ≡ w → length g ≡ w + 1 → coefficient g w ≡ true → (j : ℕ) → j < w
    → coefficient (next_remainder w g p b) j ≡ xor (coefficient (false ∷ p) j) (cond (is_taken w p b) (coefficient g j) false)
next_below w g p b wide_p wide_g top j within =
    coefficient-next w g p b wide_p wide_g top j
    ∙ rw (at_power-other j w b (λ e. omega arith)) (xor_false _)
    ∙ ap (λ x. xor (coefficient (false ∷ p) j) x) (coefficient-chosen (is_taken w p b) g j)

-- the generator or none, mirrored

chosen-low : (t : Bool) (w n : ℕ) → n < 2 ^ w → (if t then n else 0) < 2 ^ w
chosen-low true w n h = h
chosen-low false w n h = pow_pos w

chosen-bit : (t c : Bool) (n i : ℕ) → bit_at n i ≡ number c → bit_at (if t then n else 0) i ≡ number (cond t c false)
chosen-bit true c n i h = h
chosen-bit false c n i h = bit_at-zero i

-- the register after one more bit holds the next remainder
Holds-next : (w r : ℕ) (fours : List ℕ) (g p : List Bool) (b : Bool) → (d : Divides w fours g) → Holds w r p
    → Holds w (bit_xor (r / 2) (if is_taken w p b then d.reversed else 0)) (next_remainder w g p b)
Holds-next w r fours g p b d h = record {
  wide = length-next w g p b h.wide;
  mirrors = record {
    low =
        xor_lt w (r / 2) (if is_taken w p b then d.reversed else 0) (omega (arith, h.mirrors.low))
        (chosen-low (is_taken w p b) w d.reversed d.mirrors.low);
    each = λ j within.
        let half = halved w r p d.positive h.mirrors j within in
        let added = chosen-bit (is_taken w p b) (coefficient g j) d.reversed (w - 1 - j) (d.mirrors.each j within) in
        bit_at_xor (r / 2) (if is_taken w p b then d.reversed else 0) (w - 1 - j)
        ∙ rw (half, added, next_below w g p b h.wide d.wide d.top j within)
        (number-xor (coefficient (false ∷ p) j) (cond (is_taken w p b) (coefficient g j) false));
  };
}

-- bits that are added to the register

xor_turn : (x y z : ℕ) → bit_xor (bit_xor x y) z ≡ bit_xor (bit_xor x z) y
xor_turn x y z =
    same_from_bits (bit_xor (bit_xor x y) z) (bit_xor (bit_xor x z) y)
    (λ i. omega (arith, bit_at_xor (bit_xor x y) z i, bit_at_xor x y i, bit_at_xor (bit_xor x z) y i, bit_at_xor x z i))

after_zero-sum : (reversed x n : ℕ)
    → after_zero reversed (bit_xor x n) ≡ bit_xor (bit_xor (x / 2) (if nat_eq ((x + n) % 2) 1 then reversed else 0)) (n / 2)
after_zero-sum reversed x n =
    let half : bit_xor x n / 2 ≡ bit_xor (x / 2) (n / 2) = xor_shr x n 1 in
    let odd : bit_xor x n % 2 ≡ (x + n) % 2 = omega (arith, bit_at_xor x n 0) in
    rw (half, odd) (xor_turn (x / 2) (n / 2) (if nat_eq ((x + n) % 2) 1 then reversed else 0))

-- bits that were added to the register have gone in once they have left it
pub Holds-bits : (k w r n : ℕ) (fours : List ℕ) (g p : List Bool) → (d : Divides w fours g) → Holds w r p → n < 2 ^ k
    → Holds w (after_zeros k d.reversed (bit_xor r n)) (remainder_from w g p (low_bits k n))
unfolding after_zeros
Holds-bits zero w r n fours g p d h low =
    let none : n ≡ 0 = omega arith in
    let same : bit_xor r n ≡ r = rw none (xor_comm r 0) in
    subst (λ x. Holds w x p) (sym same) h
Holds-bits (suc k) w r n fours g p d h low =
    let bit = nat_eq (n % 2) 1 in
    let next = bit_xor (r / 2) (if is_taken w p bit then d.reversed else 0) in
    let same : after_zero d.reversed (bit_xor r n) ≡ bit_xor next (n / 2) =
    after_zero-sum d.reversed r n
    ∙ ap (λ t. bit_xor (bit_xor (r / 2) (if t then d.reversed else 0)) (n / 2)) (taken_is w r n p d.positive h.mirrors) in
    let less : n / 2 < 2 ^ k = omega (arith, low, pow-succ' 2 k) in
    subst (λ x. Holds w (after_zeros k d.reversed x) (remainder_from w g (next_remainder w g p bit) (low_bits k (n / 2)))) (sym same)
    (Holds-bits k w next (n / 2) fours g (next_remainder w g p bit) d (Holds-next w r fours g p bit d h) less)

-- bits that haven't come to the low end yet stay

abbrev doubled : ℕ → ℕ → ℕ
doubled zero n = n
doubled (suc k) n = 2 * doubled k n

after_zeros-apart : (k reversed x n : ℕ) → after_zeros k reversed (bit_xor x (doubled k n)) ≡ bit_xor (after_zeros k reversed x) n
unfolding after_zeros
after_zeros-apart zero reversed x n = refl
after_zeros-apart (suc k) reversed x n =
    let even : (x + 2 * doubled k n) % 2 ≡ x % 2 = omega arith in
    let half : 2 * doubled k n / 2 ≡ doubled k n = omega arith in
    let first : after_zero reversed (bit_xor x (2 * doubled k n)) ≡ bit_xor (after_zero reversed x) (doubled k n) =
    after_zero-sum reversed x (2 * doubled k n) ∙ rw (even, half) refl in
    ap (after_zeros k reversed) first ∙ after_zeros-apart k reversed (after_zero reversed x) n

pub after_zeros-more : (m n reversed x : ℕ) → after_zeros n reversed (after_zeros m reversed x) ≡ after_zeros (m + n) reversed x
unfolding after_zeros
after_zeros-more zero n reversed x = let e : 0 + n ≡ n = omega arith in rw e refl
after_zeros-more (suc m) n reversed x =
    let e : suc m + n ≡ suc (m + n) = omega arith in rw e (after_zeros-more m n reversed (after_zero reversed x))

-- the low four bits, and the others
split_four : (r : ℕ) → bit_xor (r % 16) (doubled 4 (r / 16)) ≡ r
split_four r =
    let blocks : bit_xor (0 * 2 ^ 4 + r % 16) (r / 16 * 2 ^ 4 + 0) ≡ bit_xor 0 (r / 16) * 2 ^ 4 + bit_xor (r % 16) 0 =
    xor_block 4 0 (r / 16) (r % 16) 0 (omega arith) (omega arith) in
    let low : 0 * 2 ^ 4 + r % 16 ≡ r % 16 = omega arith in
    let high : r / 16 * 2 ^ 4 + 0 ≡ doubled 4 (r / 16) = omega arith in
    let none : bit_xor (r % 16) 0 ≡ r % 16 = xor_comm (r % 16) 0 in
    (rw (low, high) at blocks) ∙ omega (arith, none)

-- the code's step by four bits
pub four_zeros : (reversed r : ℕ) (fours : List ℕ) → AreFours reversed fours
    → bit_xor (r / 16) (slice_index_or fours (bit_and r 15) 0) ≡ after_zeros 4 reversed r
four_zeros reversed r fours h =
    ap (λ i. bit_xor (r / 16) (slice_index_or fours i 0)) (and_mask r 4) ∙ ap (bit_xor (r / 16)) (h (r % 16) (omega arith))
    ∙ xor_comm (r / 16) (after_zeros 4 reversed (r % 16)) ∙ sym (after_zeros-apart 4 reversed (r % 16) (r / 16))
    ∙ ap (after_zeros 4 reversed) (split_four r)

-- the octets so far, and one more

pub remainder_from-next_octet : (w : ℕ) (g r : List Bool) (octets : List ℕ) (i : ℕ) → i < length octets
    → remainder_from w g r (bits_of (take (i + 1) octets)) ≡ remainder_from w g (remainder_from w g r (bits_of (take i octets)))
    (octet_bits (get_or octets i 0))
remainder_from-next_octet w g r octets i h =
    ap (λ x. remainder_from w g r (bits_of x)) (take_more octets i 0 h)
    ∙ ap (remainder_from w g r) (bits_of-snoc (take i octets) (get_or octets i 0))
    ∙ remainder_from-append w g r (bits_of (take i octets)) (octet_bits (get_or octets i 0))
