-- The eight-state code as a trellis, by the states in which its sequences may start.
use Rattle.std.specs.Prelude.{ℕ, Bool, nat_eq, nat_lt}
use Rattle.symbol_map.specs.declared.sample.Sample.{Sample}
use Rattle.symbol_map.specs.Points.{point_of}
use Rattle.trellis_tables.specs.Table.{next_state}
use Rattle.exact_decoder.specs.Surviving.Trellises.{Trellis, trellis_of}

-- the code with these starts
abbrev pub v32_code : (ℕ → Bool) → Trellis Sample
v32_code starts = trellis_of next_state point_of starts

-- where sequences start: in state 0 at a line's beginning, in any state in the middle
abbrev pub at_beginning : ℕ → Bool
at_beginning state = nat_eq state 0

abbrev pub at_any : ℕ → Bool
at_any state = nat_lt state 8

-- the code of a line that is heard from its beginning
abbrev pub line_trellis : Trellis Sample
line_trellis = v32_code at_beginning

-- the code of a line that is picked up in the middle
abbrev pub any_trellis : Trellis Sample
any_trellis = v32_code at_any

-- the most labels that may be unreleased
abbrev pub line_depth : ℕ
line_depth = 128
