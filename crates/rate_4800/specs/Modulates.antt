-- What a modulator makes of bits.
use Rattle.std.specs.Prelude.{◌≡◌, ℕ, ◌<◌, Bool, List, All, map}
use Rattle.std.specs.List.{flat_map}
use Rattle.frame_check.specs.Bits.{low_bits}
use Rattle.scramblers.specs.Scrambles.{Scrambles}
use Rattle.scramblers.specs.declared.mode.Mode.{Mode}
use Rattle.trellis_tables.specs.Differential.Turned.{turned}
use Rattle.trellis_tables.specs.Differential.Machines.{TurnerStands}
use Rattle.symbol_map.specs.declared.sample.Sample.{Sample}
use Rattle.line_coding.specs.Modes.{ScramblesAs}
use Rattle.rate_4800.specs.Code.{point_of}
use Rattle.rate_4800.specs.declared.modulator.Modulator.{Modulator}

-- These bits become these samples: scrambled with the tap, in twos, each two a number of quarter turns, each sum of turns a label, each label its point.
pub record Modulates (tap : ℕ) (bits : List Bool) (samples : List Sample) : Type 0 where
  pub line : List Bool
  pub turns : List ℕ
  pub scrambled : Scrambles tap bits line
  pub in_twos : line ≡ flat_map (low_bits 2) turns
  pub are_turns : All (λ n. n < 4) turns
  pub points : samples ≡ map point_of (turned turns)

-- a modulator of this mode has made these samples of these bits
pub record ModulatorStands (mode : Mode) (modulator : Modulator) (bits : List Bool) (samples : List Sample) : Type 0 where
  pub line : List Bool
  pub turns : List ℕ
  pub labels : List ℕ
  pub scrambler : ScramblesAs mode modulator.scrambler bits line
  pub in_twos : line ≡ flat_map (low_bits 2) turns
  pub are_turns : All (λ n. n < 4) turns
  pub turner : TurnerStands modulator.turner turns labels
  pub points : samples ≡ map point_of labels
