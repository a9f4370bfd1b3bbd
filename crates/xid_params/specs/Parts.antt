-- The parts of a field, groups and the parameters of group 80, as octets.
use Rattle.std.specs.Prelude.{ℕ, ◌+◌, ◌*◌, ◌/◌, ◌%◌, if◌then◌else◌, nat_eq, List, [], ◌∷◌, length, fold}

-- a part: what it is, and its octets
pub record Part : Type 0 where
  pub identifier : ℕ
  pub value : List ℕ

-- a group: its identifier, its length in two octets, the high one first, and what it contains
abbrev pub group_octets : Part → List ℕ
group_octets part = part.identifier ∷ (length part.value / 256) ∷ (length part.value % 256) ∷ part.value

-- a parameter: its identifier, its length in one octet, and its value
abbrev pub parameter_octets : Part → List ℕ
parameter_octets part = part.identifier ∷ length part.value ∷ part.value

-- the parts with this identifier, in order
abbrev pub named : ℕ → List Part → List Part
named identifier [] = []
named identifier (part ∷ parts) = if nat_eq part.identifier identifier then part ∷ named identifier parts else named identifier parts

-- the number that octets spell, the high one first
abbrev pub number_of : List ℕ → ℕ
number_of octets = fold (λ number octet. 256 * number + octet) 0 octets
