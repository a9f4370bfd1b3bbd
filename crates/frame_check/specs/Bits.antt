-- The bits of octets, in the order in which a line carries them: of each octet the low bit first.
use Rattle.std.specs.Prelude.{ℕ, zero, suc, ◌+◌, ◌*◌, ◌/◌, ◌%◌, Bool, true, false, List, [], ◌∷◌, take, drop, nat_eq}
use Rattle.std.specs.List.{flat_map}

-- the lowest bits of a number, the low one first
abbrev pub low_bits : ℕ → ℕ → List Bool
low_bits zero n = []
low_bits (suc k) n = nat_eq (n % 2) 1 ∷ low_bits k (n / 2)

-- the eight bits of an octet
abbrev pub octet_bits : ℕ → List Bool
octet_bits n = low_bits 8 n

-- the bits of all the octets in order
abbrev pub bits_of : List ℕ → List Bool
bits_of octets = flat_map octet_bits octets

-- a bit as a number
abbrev pub number : Bool → ℕ
number true = 1
number false = 0

-- the number with these bits, the low one first
abbrev pub number_of : List Bool → ℕ
number_of [] = 0
number_of (b ∷ bits) = number b + 2 * number_of bits

-- the first so many octets that these bits are
abbrev pub octets_of : ℕ → List Bool → List ℕ
octets_of zero bits = []
octets_of (suc count) bits = number_of (take 8 bits) ∷ octets_of count (drop 8 bits)
