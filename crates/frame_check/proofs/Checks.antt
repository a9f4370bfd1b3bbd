-- The check that the register gives, and that the definition has just one.
use Rattle.frame_check.proofs.Names.{◌≡◌, ℕ, zero, suc, ◌+◌, ◌-◌, ◌*◌, ◌/◌, ◌%◌, ◌^◌, ◌<◌, Bool, true, false, List, [], ◌∷◌, ◌++◌, All}
use Rattle.frame_check.proofs.Names.{length, reverse, get_or, take, drop, nat_eq, ◌≤◌, arith, length-append, refl, sym, ◌∙◌, ap, subst}
use Rattle.frame_check.proofs.Names.{false≢true, bit_at, bits_of, low_bits, number, count_of, coefficient, generator_of, Leaves, Holds}
use Rattle.frame_check.proofs.Names.{Sixteen, ThirtyTwo}
use Rattle.std.proofs.Common.{not}
use Rattle.std.proofs.Common.{map}
use Rattle.std.specs.Int.{w16, w32}
use Rattle.std.proofs.lemmas.List.{length-map, length-reverse, get_or-map, get_or-reverse}
use Rattle.std.proofs.lemmas.Nat.Bits.{bit_at_not}
use Rattle.std.proofs.lemmas.Bool.Decides.{Decides-eqb}
use Rattle.std.proofs.lemmas.Slice.Eq.{slice_eq-Decides}
use Rattle.std.proofs.Math.Seq.{take-append_seam, drop-append_seam}
use Rattle.std.specs.Cmp.Lexicographic.{pointwise}
use Rattle.std.specs.Prelude.{IsTrue}
use Rattle.frame_check.specs.declared.check.Check.{Check}
use Rattle.frame_check.specs.FrameCheck.{width_of, IsCheckOf, IsChecked, Passes}
use Rattle.frame_check.specs.Division.{remainder_of, check_of, with_check}
use Rattle.frame_check.proofs.BitLists.{low_bits-by_place, same_octets, length-octets_of, octets_of-are_octets, bits_of-octets_of}
use Rattle.frame_check.proofs.BitLists.{bits_of-two, bits_of-four}
use Rattle.frame_check.proofs.Remainders.{Leaves-all}
use Rattle.frame_check.proofs.Unique.{one_remainder}

-- the definition has one check

wide : (check : Check) → length (generator_of check) ≡ width_of check + 1
wide Sixteen = refl
wide ThirtyTwo = refl

top : (check : Check) → coefficient (generator_of check) (width_of check) ≡ true
top Sixteen = refl
top ThirtyTwo = refl

counted : (check : Check) → 8 * count_of check ≡ width_of check
counted Sixteen = refl
counted ThirtyTwo = refl

leaves_of : (check : Check) (octets : List ℕ) → Leaves (width_of check) (generator_of check) (bits_of octets) (remainder_of check octets)
unfolding remainder_of
leaves_of check octets = Leaves-all (width_of check) (generator_of check) (bits_of octets) (wide check) (top check)

complement_wide : (check : Check) (octets : List ℕ) → length (map not (reverse (remainder_of check octets))) ≡ 8 * count_of check
complement_wide check octets =
    length-map (reverse (remainder_of check octets)) not ∙ length-reverse (remainder_of check octets) ∙ (leaves_of check octets).wide
    ∙ sym (counted check)

bits_of-check_of : (check : Check) (octets : List ℕ) → bits_of (check_of check octets) ≡ map not (reverse (remainder_of check octets))
unfolding check_of
bits_of-check_of check octets =
    bits_of-octets_of (count_of check) (map not (reverse (remainder_of check octets))) (complement_wide check octets)

check_of-are_octets : (check : Check) (octets : List ℕ) → All (λ n. n < 256) (check_of check octets)
unfolding check_of
check_of-are_octets check octets = octets_of-are_octets (count_of check) (map not (reverse (remainder_of check octets)))

pub length-check_of : (check : Check) (octets : List ℕ) → length (check_of check octets) ≡ count_of check
unfolding check_of
length-check_of check octets = length-octets_of (count_of check) (map not (reverse (remainder_of check octets)))

-- the division gives a check of the definition
pub check_of-is : (check : Check) (octets : List ℕ) → IsCheckOf check octets (check_of check octets)
check_of-is check octets = record {
  are_octets = check_of-are_octets check octets;
  remainder = remainder_of check octets;
  leaves = leaves_of check octets;
  complement = bits_of-check_of check octets;
}

pub one_remainder_of : (check : Check) (bits r s : List Bool) → Leaves (width_of check) (generator_of check) bits r
    → Leaves (width_of check) (generator_of check) bits s → r ≡ s
one_remainder_of Sixteen bits r s h k = one_remainder 15 (generator_of Sixteen) bits r s refl refl h k
one_remainder_of ThirtyTwo bits r s h k = one_remainder 31 (generator_of ThirtyTwo) bits r s refl refl h k

-- and there is no other
pub check_of-one : (check : Check) (octets others : List ℕ) → IsCheckOf check octets others → others ≡ check_of check octets
check_of-one check octets others h =
    let same : h.remainder ≡ remainder_of check octets =
    one_remainder_of check (bits_of octets) h.remainder (remainder_of check octets) h.leaves (leaves_of check octets) in
    same_octets others (check_of check octets) h.are_octets (check_of-are_octets check octets)
    (h.complement ∙ ap (λ r. map not (reverse r)) same ∙ sym (bits_of-check_of check octets))

-- what the register gives is the check

turned : (b : Bool) → nat_eq (1 - number b) 1 ≡ not b
turned true = refl
turned false = refl

-- the bits of the register's complement
complement_bits : (n : ℕ) (register : ℕ) (r : List Bool) → Holds (suc n) register r
    → ((i : ℕ) → i < suc n → bit_at (2 ^ suc n - 1 - register) i ≡ 1 - bit_at register i)
    → low_bits (suc n) (2 ^ suc n - 1 - register) ≡ map not (reverse r)
complement_bits n register r h flips =
    low_bits-by_place (suc n) (2 ^ suc n - 1 - register) (map not (reverse r)) (length-map (reverse r) not ∙ length-reverse r ∙ h.wide)
    (λ i d l.
    let back : suc n - 1 - (n - i) ≡ i = omega arith in
    let kept : bit_at register i ≡ number (coefficient r (n - i)) = rw back at (h.mirrors.each (n - i) (omega arith)) in
    let within : i < length r = omega (arith, h.wide) in
    let inner : i < length (reverse r) = omega (arith, h.wide, length-reverse r) in
    let place : length r - 1 - i ≡ n - i = omega (arith, h.wide) in
    let there : get_or (map not (reverse r)) i d ≡ not (coefficient r (n - i)) =
    get_or-map not (reverse r) i false d inner ∙ ap not (get_or-reverse r i false within ∙ ap (coefficient r) place) in
    ap (λ x. nat_eq x 1) (flips i l ∙ ap (λ x. 1 - x) kept) ∙ turned (coefficient r (n - i)) ∙ sym there)

pub sixteen_is : (register : ℕ) (octets : List ℕ) → Holds 16 register (remainder_of Sixteen octets)
    → (65535 - register) % 256 ∷ ((65535 - register) / 256 % 256) ∷ [] ≡ check_of Sixteen octets
sixteen_is register octets h = same_octets _ (check_of Sixteen octets) are (check_of-are_octets Sixteen octets)
    (bits_of-two (65535 - register)
    ∙ complement_bits 15 register (remainder_of Sixteen octets) h (λ i l. bit_at_not w16 register i h.mirrors.low l)
    ∙ sym (bits_of-check_of Sixteen octets))
  where
    are : All (λ n. n < 256) ((65535 - register) % 256 ∷ ((65535 - register) / 256 % 256) ∷ [])
    are zero d l = omega arith
    are (suc zero) d l = omega arith
    are (suc (suc k)) d l = absurd (omega arith)

pub thirty_two_is : (register : ℕ) (octets : List ℕ) → Holds 32 register (remainder_of ThirtyTwo octets)
    → (4294967295 - register) % 256 ∷ ((4294967295 - register) / 256 % 256) ∷ ((4294967295 - register) / 65536 % 256) ∷
    ((4294967295 - register) / 16777216 % 256) ∷ [] ≡ check_of ThirtyTwo octets
thirty_two_is register octets h = same_octets _ (check_of ThirtyTwo octets) are (check_of-are_octets ThirtyTwo octets)
    (bits_of-four (4294967295 - register)
    ∙ complement_bits 31 register (remainder_of ThirtyTwo octets) h (λ i l. bit_at_not w32 register i h.mirrors.low l)
    ∙ sym (bits_of-check_of ThirtyTwo octets))
  where
    are : All (λ n. n < 256)
        ((4294967295 - register) % 256 ∷ ((4294967295 - register) / 256 % 256) ∷ ((4294967295 - register) / 65536 % 256) ∷
        ((4294967295 - register) / 16777216 % 256) ∷ [])
    are zero d l = omega arith
    are (suc zero) d l = omega arith
    are (suc (suc zero)) d l = omega arith
    are (suc (suc (suc zero))) d l = omega arith
    are (suc (suc (suc (suc k)))) d l = absurd (omega arith)

-- octets with their check

pub with_check-is : (check : Check) (octets : List ℕ) → IsChecked check octets (with_check check octets)
with_check-is check octets = record { check_octets = check_of check octets; follow = check_of-is check octets; whole_is = refl }

pub with_check-one : (check : Check) (octets whole : List ℕ) → IsChecked check octets whole → whole ≡ with_check check octets
with_check-one check octets whole h = h.whole_is ∙ ap (λ c. octets ++ c) (check_of-one check octets h.check_octets h.follow)

-- whole frames that pass

-- the octets in front of a check are one list
pub fronts-one : (check : Check) (octets others whole : List ℕ) → IsChecked check octets whole → IsChecked check others whole
    → octets ≡ others
fronts-one check octets others whole h k =
    let same : octets ++ check_of check octets ≡ others ++ check_of check others =
    sym (with_check-one check octets whole h) ∙ with_check-one check others whole k in
    let lengths : length octets ≡ length others =
    omega (
      arith,
      ap length same,
      length-append octets (check_of check octets),
      length-append others (check_of check others),
      length-check_of check octets,
      length-check_of check others,
    ) in
    sym (take-append_seam octets (check_of check octets)) ∙ ap (λ n. take n (octets ++ check_of check octets)) lengths
    ∙ ap (take (length others)) same ∙ take-append_seam others (check_of check others)

pub length-checked : (check : Check) (octets whole : List ℕ) → IsChecked check octets whole → length whole ≡ length octets + count_of check
length-checked check octets whole h =
    ap length (with_check-one check octets whole h) ∙ length-append octets (check_of check octets)
    ∙ ap (λ n. length octets + n) (length-check_of check octets)

-- and they are what stands in front of it
pub front-checked : (check : Check) (octets whole : List ℕ) → IsChecked check octets whole
    → octets ≡ take (length whole - count_of check) whole
front-checked check octets whole h =
    let count : length octets ≡ length whole - count_of check = omega (arith, length-checked check octets whole h) in
    sym (take-append_seam octets (check_of check octets)) ∙ ap (λ n. take n (octets ++ check_of check octets)) count
    ∙ ap (take (length whole - count_of check)) (sym (with_check-one check octets whole h))

pub long_enough : (check : Check) (whole : List ℕ) → Passes check whole → count_of check ≤ length whole
long_enough check whole h = omega (arith, length-checked check h.octets whole h.checked)

pub too_short : (check : Check) (whole : List ℕ) → (count_of check ≤ length whole → ⊥)
    → (IsTrue false → Passes check whole) × (Passes check whole → IsTrue false)
too_short check whole h = (λ e. absurd (false≢true e), λ p. absurd (h (long_enough check whole p)))

-- octets of the length of a check, behind others, pass where they are the check of these
passes-at : (check : Check) (front last : List ℕ) → length last ≡ count_of check → Passes check (front ++ last)
    → last ≡ check_of check front
passes-at check front last count h =
    let e : front ++ last ≡ h.octets ++ check_of check h.octets = with_check-one check h.octets (front ++ last) h.checked in
    let lengths : length front ≡ length h.octets =
    omega (
      arith,
      ap length e,
      length-append front last,
      length-append h.octets (check_of check h.octets),
      length-check_of check h.octets,
    ) in
    let same : front ≡ h.octets =
    sym (take-append_seam front last) ∙ ap (λ n. take n (front ++ last)) lengths ∙ ap (take (length h.octets)) e
    ∙ take-append_seam h.octets (check_of check h.octets) in
    sym (drop-append_seam front last) ∙ ap (drop (length front)) e ∙ ap (λ n. drop n (h.octets ++ check_of check h.octets)) lengths
    ∙ drop-append_seam h.octets (check_of check h.octets) ∙ ap (check_of check) (sym same)

at-passes : (check : Check) (front last : List ℕ) → last ≡ check_of check front → Passes check (front ++ last)
at-passes check front last e =
    record { octets = front; checked = subst (λ c. IsChecked check front (front ++ c)) (sym e) (with_check-is check front) }

pub decides : (check : Check) (whole front last found : List ℕ) (r : Bool) → whole ≡ front ++ last → length last ≡ count_of check
    → found ≡ check_of check front → r ≡ pointwise nat_eq last found → (IsTrue r → Passes check whole) × (Passes check whole → IsTrue r)
decides check whole front last found r parts count found_is test =
    let d = slice_eq-Decides Decides-eqb last found r test in (
      λ yes. subst (Passes check) (sym parts) (at-passes check front last (d.0 yes ∙ found_is)),
      λ p. d.1 (passes-at check front last count (subst (Passes check) parts p) ∙ sym found_is),
    )
