-- For which bits and samples an encoder stands.
use Rattle.std.specs.Prelude.{ℕ, Bool, List}
use Rattle.scramblers.specs.declared.mode.Mode.{Mode}
use Rattle.symbol_map.specs.declared.sample.Sample.{Sample}
use Rattle.line_coding.specs.Modulates.{ModulatorStands}
use Rattle.rate_4800.specs.Modulates.{ModulatorStands as QuarterModulatorStands}
use Rattle.gateway.specs.declared.any_reader.LineKind.{LineKind}
use Rattle.gateway.specs.declared.any_reader.LineKind.TheVariants as lines
use Rattle.gateway.specs.declared.encoder.SampleEncoder.{SampleEncoder}
use Rattle.gateway.specs.declared.encoder.SampleEncoder.TheVariants as encoders

-- it has made these samples of these bits, as a modem of this mode sends them on such a line
abbrev pub HasEncoded : LineKind → Mode → SampleEncoder → List Bool → List Sample → Type 0
HasEncoded lines.Begun mode (encoders.Begun m) bits samples = ModulatorStands mode m bits samples
HasEncoded lines.Begun mode (encoders.Quarters m) bits samples = ⊥
HasEncoded lines.Middle mode encoder bits samples = ⊥
HasEncoded lines.Quarters mode (encoders.Begun m) bits samples = ⊥
HasEncoded lines.Quarters mode (encoders.Quarters m) bits samples = QuarterModulatorStands mode m bits samples

-- how many bits become a sample
abbrev pub bits_each : SampleEncoder → ℕ
bits_each (encoders.Begun m) = 4
bits_each (encoders.Quarters m) = 2
