-- The frame check of ITU-T V.42, by division of polynomials over the field of two elements.
-- A polynomial is the list of its coefficients, that of the lowest power first.
use Rattle.std.specs.Prelude.{◌≡◌, ℕ, Bool, true, false, not, if◌then◌else◌, List, [], ◌∷◌, ◌++◌, length, map, reverse, replicate, slice_index_or}
use Rattle.frame_check.specs.declared.check.Check.{Check}
use Rattle.frame_check.specs.declared.check.Check.TheVariants.{Sixteen, ThirtyTwo}
use Rattle.frame_check.specs.Bits.{bits_of}
use Rattle.frame_check.specs.Xor.{xor}
use Rattle.frame_check.specs.Octets.{AreOctets}

-- the coefficient of a power
abbrev pub coefficient : List Bool → ℕ → Bool
coefficient p power = slice_index_or p power false

-- two lists are one polynomial: they differ at most in zeros at the end
abbrev pub Same : List Bool → List Bool → Type 0
Same p q = (power : ℕ) → coefficient p power ≡ coefficient q power

-- the sum: that of two coefficients is one where exactly one of them is
abbrev pub plus : List Bool → List Bool → List Bool
plus [] q = q
plus (a ∷ p) [] = a ∷ p
plus (a ∷ p) (b ∷ q) = xor a b ∷ plus p q

-- the product: (a + x·q)·g is a·g + x·(q·g)
abbrev pub times : List Bool → List Bool → List Bool
times [] g = []
times (a ∷ q) g = plus (if a then g else []) (false ∷ times q g)

-- x^k·p
abbrev pub raised : ℕ → List Bool → List Bool
raised k p = replicate k false ++ p

-- the sum of these powers of x
abbrev pub powers : List ℕ → List Bool
powers [] = []
powers (k ∷ others) = plus (raised k (true ∷ [])) (powers others)

-- x^(width-1) + .. + x + 1
abbrev pub all_ones : ℕ → List Bool
all_ones width = replicate width true

-- the number of bits of the check
abbrev pub width_of : Check → ℕ
width_of Sixteen = 16
width_of ThirtyTwo = 32

-- the generator, a polynomial of that degree
abbrev pub generator_of : Check → List Bool
generator_of Sixteen = powers (16 ∷ 12 ∷ 5 ∷ 0 ∷ [])
generator_of ThirtyTwo = powers (32 ∷ 26 ∷ 23 ∷ 22 ∷ 16 ∷ 12 ∷ 11 ∷ 10 ∷ 8 ∷ 7 ∷ 5 ∷ 4 ∷ 2 ∷ 1 ∷ 0 ∷ [])

-- The remainder R that the bits leave. They are the coefficients of M, the first bit that of the highest power, and k is their number.
-- With A = x^(width-1) + .. + 1 and the generator G there is a quotient Q such that x^width·M + x^k·A + R = Q·G.
pub record Leaves (width : ℕ) (generator bits remainder : List Bool) : Type 0 where
  pub quotient : List Bool
  pub wide : length remainder ≡ width
  pub equation : Same (plus (plus (raised width (reverse bits)) (raised (length bits) (all_ones width))) remainder)
      (times quotient generator)

-- These octets are the check of those: their bits are the complement of the remainder, the coefficient of the highest power first.
pub record IsCheckOf (check : Check) (octets check_octets : List ℕ) : Type 0 where
  pub are_octets : AreOctets check_octets
  pub remainder : List Bool
  pub leaves : Leaves (width_of check) (generator_of check) (bits_of octets) remainder
  pub complement : bits_of check_octets ≡ map not (reverse remainder)

-- the whole is the octets, and behind them their check
pub record IsChecked (check : Check) (octets whole : List ℕ) : Type 0 where
  pub check_octets : List ℕ
  pub follow : IsCheckOf check octets check_octets
  pub whole_is : whole ≡ octets ++ check_octets

-- the last octets of the whole are the check of those before
pub record Passes (check : Check) (whole : List ℕ) : Type 0 where
  pub octets : List ℕ
  pub checked : IsChecked check octets whole
