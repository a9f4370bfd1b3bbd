-- The bits of a slot's quads.
use Rattle.std.specs.Prelude.{ℕ, Bool, List}
use Rattle.std.specs.List.{flat_map}
use Rattle.frame_check.specs.Bits.{low_bits}

-- The bits in order of time. A quad is Q1 + 2·Q2 + 4·Q3 + 8·Q4 of four bits Q1, Q2, Q3 and Q4.
abbrev pub line_bits : List ℕ → List Bool
line_bits quads = flat_map (low_bits 4) quads
