-- What a modulator makes of bits.
use Rattle.std.specs.Prelude.{◌≡◌, ℕ, ◌<◌, Bool, List, All, map}
use Rattle.std.specs.List.{flat_map}
use Rattle.frame_check.specs.Bits.{low_bits}
use Rattle.scramblers.specs.Scrambles.{Scrambles}
use Rattle.scramblers.specs.declared.mode.Mode.{Mode}
use Rattle.symbol_map.specs.declared.sample.Sample.{Sample}
use Rattle.symbol_map.specs.Points.{point_of}
use Rattle.trellis_tables.specs.Encoder.{Encodes, EncoderStands}
use Rattle.line_coding.specs.Modes.{ScramblesAs}
use Rattle.line_coding.specs.declared.modulator.Modulator.{Modulator}

-- These bits become these samples: scrambled with the tap, in fours, each four coded as a label, each label its point.
pub record Modulates (tap : ℕ) (bits : List Bool) (samples : List Sample) : Type 0 where
  pub line : List Bool
  pub quads : List ℕ
  pub labels : List ℕ
  pub end : ℕ
  pub scrambled : Scrambles tap bits line
  pub in_fours : line ≡ flat_map (low_bits 4) quads
  pub are_quads : All (λ quad. quad < 16) quads
  pub encoded : Encodes quads labels end
  pub points : samples ≡ map point_of labels

-- a modulator of this mode has made these samples of these bits
pub record ModulatorStands (mode : Mode) (modulator : Modulator) (bits : List Bool) (samples : List Sample) : Type 0 where
  pub line : List Bool
  pub quads : List ℕ
  pub labels : List ℕ
  pub scrambler : ScramblesAs mode modulator.scrambler bits line
  pub in_fours : line ≡ flat_map (low_bits 4) quads
  pub are_quads : All (λ quad. quad < 16) quads
  pub encoder : EncoderStands modulator.encoder quads labels
  pub points : samples ≡ map point_of labels
