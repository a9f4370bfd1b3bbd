-- Bits of a stream by their places, counted from 0.
use Rattle.std.specs.Prelude.{ℕ, ◌-◌, Bool, false, if◌then◌else◌, nat_lt, List, slice_index_or}

-- the bit at a place
abbrev pub bit_at_place : List Bool → ℕ → Bool
bit_at_place bits i = slice_index_or bits i false

-- the bit that stands so many places before place i; what would stand before the first bit is 0
abbrev pub earlier : List Bool → ℕ → ℕ → Bool
earlier bits i places = if nat_lt i places then false else bit_at_place bits (i - places)
