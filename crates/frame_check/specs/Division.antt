-- The frame check as a function: long division, a bit at a time. That it gives the one check of the definition is a law.
use Rattle.std.specs.Prelude.{ℕ, ◌/◌, Bool, false, not, if◌then◌else◌, List, [], ◌∷◌, ◌++◌, map, reverse, take}
use Rattle.frame_check.specs.declared.check.Check.{Check}
use Rattle.frame_check.specs.Bits.{bits_of, octets_of}
use Rattle.frame_check.specs.FrameCheck.{coefficient, plus, all_ones, width_of, generator_of}
use Rattle.frame_check.specs.Xor.{xor}

-- the remainder that is left once one more bit follows: where x·R and x^width·bit have the power x^width, the generator is taken away
abbrev pub next_remainder : ℕ → List Bool → List Bool → Bool → List Bool
next_remainder width generator remainder bit =
    take width (plus (false ∷ remainder) (if xor (coefficient (false ∷ remainder) width) bit then generator else []))

-- the remainder once all these bits follow
abbrev pub remainder_from : ℕ → List Bool → List Bool → List Bool → List Bool
remainder_from width generator remainder [] = remainder
remainder_from width generator remainder (bit ∷ bits) = remainder_from width generator (next_remainder width generator remainder bit) bits

-- the number of octets of a check
abbrev pub count_of : Check → ℕ
count_of check = width_of check / 8

-- the remainder that the octets leave
unfoldable pub remainder_of : Check → List ℕ → List Bool
remainder_of check octets = remainder_from (width_of check) (generator_of check) (all_ones (width_of check)) (bits_of octets)

-- the check of the octets
unfoldable pub check_of : Check → List ℕ → List ℕ
check_of check octets = octets_of (count_of check) (map not (reverse (remainder_of check octets)))

-- the octets with their check
abbrev pub with_check : Check → List ℕ → List ℕ
with_check check octets = octets ++ check_of check octets
