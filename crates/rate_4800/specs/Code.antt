-- The code of four points: one state, and each label leads from it to itself.
use Rattle.std.specs.Prelude.{ℕ, ℤ, pos, ◌*ℤ◌, List, [], ◌∷◌, slice_index_or, Option, Some, None, ◌&&◌, if◌then◌else◌, nat_lt}
use Rattle.symbol_map.specs.declared.sample.Sample.{Sample}
use Rattle.symbol_map.specs.Points.{plus, minus}

abbrev pub next_state : ℕ → ℕ → Option ℕ
next_state state label = if nat_lt state 1 && nat_lt label 4 then Some 0 else None

-- the points in units of the map, each a quarter turn from the one before it
abbrev pub map_points : List (ℤ × ℤ)
map_points = (plus 3, plus 1) ∷ (plus 1, minus 3) ∷ (minus 3, minus 1) ∷ (minus 1, plus 3) ∷ []

abbrev pub map_point : ℕ → ℤ × ℤ
map_point label = slice_index_or map_points label (plus 0, plus 0)

-- a sample has 2048 units per map unit
abbrev pub point_of : ℕ → Sample
point_of label = record { re = pos 2048 *ℤ (map_point label).0; im = pos 2048 *ℤ (map_point label).1 }

-- the ways into the state: one for each label
abbrev pub way_before : ℕ → ℕ → ℕ
way_before to place = 0

abbrev pub way_subset : ℕ → ℕ → ℕ
way_subset to place = place
