-- What a meter has measured.
use Rattle.std.specs.Prelude.{◌≡◌, ℕ, Bool, List}
use Rattle.frame_check.specs.Bits.{bits_of}
use Rattle.scramblers.specs.declared.mode.Mode.{Mode}
use Rattle.symbol_map.specs.declared.sample.Sample.{Sample}
use Rattle.noise_bound.specs.Margins.{MarginStands, IsCostOf}
use Rattle.gateway.specs.declared.meter.LockMeter.{LockMeter}

-- it has measured these bits, as a modem of this mode sends them, against these samples: eight bits and two samples at a time
pub record HasMeasured (mode : Mode) (meter : LockMeter) (bits : List Bool) (samples : List Sample) : Type 0 where
  pub octets : List ℕ
  pub bits_are : bits ≡ bits_of octets
  pub measured : MarginStands mode meter.margin octets samples

-- the bits become labels, of which these samples were heard: so much do the labels cost
pub record BitsCost (mode : Mode) (bits : List Bool) (samples : List Sample) (price : ℕ) : Type 0 where
  pub octets : List ℕ
  pub bits_are : bits ≡ bits_of octets
  pub cost : IsCostOf mode octets samples price
