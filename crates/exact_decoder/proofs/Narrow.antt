-- Sums that keys of 32 bits have.
use Rattle.exact_decoder.proofs.Names.{◌≡◌, ℕ, ◌+◌, ◌-◌, ◌*◌, ◌/◌, ◌%◌, ◌^◌, ◌<◌, Bool, true, nat_eq, List, [], ◌∷◌, arith, ◌∙◌, ap}
use Rattle.exact_decoder.proofs.Names.{bit_and, slice_index, cond, eqb-true, and_mask, mask_l, IsNarrow}
use Rattle.std.proofs.lemmas.Nat.{and_block}

-- a word of which no bit is in the mask
pub narrow-word : (word state : ℕ) → word < 2 ^ 62 → word % 65536 ≡ state → bit_and word 18444492274164236288 ≡ 0 → IsNarrow word state
narrow-word word state small is none =
    let top = word / 2 ^ 51 in
    let low = word % 2 ^ 51 in
    let middle = low / 2 ^ 16 in
    let parts : word ≡ top * 2 ^ 51 + low = omega arith in
    let inner : low ≡ middle * 2 ^ 16 + low % 2 ^ 16 = omega arith in
    let first = and_block 51 top (2 ^ 13 - 1) low ((2 ^ 12 - 1) * 2 ^ 16 + 0) (omega arith) (omega arith) in
    let second = and_block 16 middle (2 ^ 12 - 1) (low % 2 ^ 16) 0 (omega arith) (omega arith) in
    let high_bits = and_mask top 13 in
    let middle_bits = and_mask middle 12 in
    let whole : bit_and word 18444492274164236288 ≡ bit_and top (2 ^ 13 - 1) * 2 ^ 51 + bit_and low ((2 ^ 12 - 1) * 2 ^ 16 + 0) =
    ap (λ n. bit_and n 18444492274164236288) parts ∙ first in
    let rest : bit_and low ((2 ^ 12 - 1) * 2 ^ 16 + 0) ≡ bit_and middle (2 ^ 12 - 1) * 2 ^ 16 + bit_and (low % 2 ^ 16) 0 =
    ap (λ n. bit_and n ((2 ^ 12 - 1) * 2 ^ 16 + 0)) inner ∙ second in
    (word / 268435456, omega arith, omega arith)

abbrev as_number : Bool → ℕ
as_number b = cond b 1 0

-- all bits of a mask are set
pub record AreSet (a b c d e f g h : Bool) : Type 0 where
  pub a_set : a ≡ true
  pub b_set : b ≡ true
  pub c_set : c ≡ true
  pub d_set : d ≡ true
  pub e_set : e ≡ true
  pub f_set : f ≡ true
  pub g_set : g ≡ true
  pub h_set : h ≡ true

pub are-set : (a b c d e f g h : Bool) → nat_eq (mask_l (a ∷ b ∷ c ∷ d ∷ e ∷ f ∷ g ∷ h ∷ []) % 18446744073709551616) 255 ≡ true
    → AreSet a b c d e f g h
are-set a b c d e f g h q = grind (arith, eqb-true)

pub narrow-lane : (sums : List ℕ) (state : ℕ) → slice_index sums state < 2 ^ 62 → slice_index sums state % 65536 ≡ state
    → nat_eq (bit_and (slice_index sums state) 18444492274164236288) 0 ≡ true → IsNarrow (slice_index sums state) state
narrow-lane sums state small is test = narrow-word (slice_index sums state) state small is (eqb-true _ 0 test)
