-- For which points and samples a transmitter stands.
use Rattle.std.specs.Prelude.{◌≡◌, List, length}
use Rattle.symbol_map.specs.declared.sample.Sample.{Sample}
use Rattle.noise_script.specs.Script.{ScriptValue}
use Rattle.sample_line.specs.declared.transmitter.Transmitter.{Transmitter}
use Rattle.sample_line.specs.Recorded.{displaced_from}

-- The samples are these points, displaced by the script.
pub record Transmits (transmitter : Transmitter) (script : ScriptValue) (points samples : List Sample) : Type 0 where
  pub counted : transmitter.symbol ≡ length points
  pub samples_are : samples ≡ displaced_from script transmitter.sender 0 points
