-- Which point is nearest to a sample.
use Rattle.std.specs.Prelude.{ℕ, ◌+◌, ◌*◌, ◌^◌, ◌<◌, ◌≤◌}
use Rattle.symbol_map.specs.declared.sample.Sample.{Sample}
use Rattle.symbol_map.specs.Distance.{distance_of}
use Rattle.rate_4800.specs.Code.{point_of}

-- the key of a label: by its point's squared distance, and then by the label itself
abbrev pub key_of : Sample → ℕ → ℕ
key_of sample label = 65536 * distance_of (point_of label) sample + 256 * label

-- no label has a nearer point, and none before it has one as near
pub record IsNearestLabel (sample : Sample) (label : ℕ) : Type 0 where
  pub within : label < 4
  pub least : (i : ℕ) → i < 4 → key_of sample label ≤ key_of sample i
  pub close : (i : ℕ) → i < 4 → distance_of (point_of i) sample < 2 ^ 33
