-- What octets cost against the samples of a recording.
use Rattle.std.specs.Prelude.{◌≡◌, ℕ, ◌+◌, ◌*◌, List, [], ◌∷◌, length}
use Rattle.frame_check.specs.Bits.{bits_of}
use Rattle.scramblers.specs.declared.mode.Mode.{Mode}
use Rattle.scramblers.specs.Mode.{tap_of}
use Rattle.symbol_map.specs.declared.sample.Sample.{Sample}
use Rattle.symbol_map.specs.Distance.{distance_of}
use Rattle.trellis_tables.specs.Laws.{far_from}
use Rattle.trellis_tables.specs.Sequences.{cost}
use Rattle.line_coding.specs.Modulates.{Modulates, ModulatorStands}
use Rattle.line_coding.specs.declared.modulator.Modulator.{Modulator}

-- The octets become labels, of which these samples were heard, two of each octet: so much do the labels cost.
pub record IsCostOf (mode : Mode) (octets : List ℕ) (samples : List Sample) (price : ℕ) : Type 0 where
  pub points : List Sample
  pub modulated : Modulates (tap_of mode) (bits_of octets) points
  pub two_each : length samples ≡ 2 * length octets
  pub same_length : length modulated.labels ≡ length samples
  pub price_is : price ≡ cost far_from modulated.labels samples

-- what a margin keeps
pub record Measured : Type 0 where
  pub modulator : Modulator
  pub cost : ℕ
  pub count : ℕ

-- the sum of the squared distances of samples from those at the same places
abbrev pub distances : List Sample → List Sample → ℕ
distances [] samples = 0
distances (point ∷ points) [] = 0
distances (point ∷ points) (sample ∷ samples) = distance_of point sample + distances points samples

-- a margin that keeps this has measured these octets against these samples
pub record MarginStands (mode : Mode) (m : Measured) (octets : List ℕ) (samples : List Sample) : Type 0 where
  pub points : List Sample
  pub modulator : ModulatorStands mode m.modulator (bits_of octets) points
  pub two_each : length samples ≡ 2 * length octets
  pub same_length : length points ≡ length samples
  pub cost_is : m.cost ≡ distances points samples
  pub counted : m.count ≡ length octets
