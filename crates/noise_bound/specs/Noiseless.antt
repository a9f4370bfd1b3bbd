-- Samples without noise, and the trellis that a line's decoder searches.
use Rattle.std.specs.Prelude.{◌≡◌, ℕ, ◌<◌, nat_eq, List, map}
use Rattle.symbol_map.specs.declared.sample.Sample.{Sample}
use Rattle.symbol_map.specs.Points.{point_of}
use Rattle.trellis_tables.specs.Sequences.{Leads}
use Rattle.trellis_tables.specs.Table.{next_state}
use Rattle.exact_decoder.specs.Surviving.Trellises.{Trellis}
use Rattle.exact_decoder.specs.Surviving.V32.{v32_code}

-- the eight-state code's sequences from one state
abbrev pub v32_from : ℕ → Trellis Sample
v32_from start = v32_code (λ state. nat_eq state start)

-- the samples are exactly the points of these labels, which are a code sequence from the start
pub record IsNoiseless (start : ℕ) (labels : List ℕ) (samples : List Sample) : Type 0 where
  pub start_there : start < 8
  pub end : ℕ
  pub leads : Leads next_state start labels end
  pub exact : samples ≡ map point_of labels
