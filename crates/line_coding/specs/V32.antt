-- What a reader of any code reads (`SamplesRead`), for the eight-state code and the modes of its lines.
use Rattle.std.specs.Prelude.{ℕ, Bool, List}
use Rattle.scramblers.specs.declared.mode.Mode.{Mode}
use Rattle.symbol_map.specs.declared.sample.Sample.{Sample}
use Rattle.symbol_map.specs.Points.{point_of}
use Rattle.trellis_tables.specs.Table.{next_state}
use Rattle.line_coding.specs.Demodulates.{DemodulatorStands}
use Rattle.line_coding.specs.declared.demodulator.Demodulator.{Demodulator}
use Rattle.line_coding.specs.Reading.{Reading, SamplesRead}

-- The samples of a line that a modem of this mode sent are read as these bits.
abbrev pub LineRead : Mode → (ℕ → Bool) → ℕ → Reading Demodulator → List Sample → List Bool → Type 0
LineRead mode starts depth r samples bits = SamplesRead next_state point_of (DemodulatorStands mode) starts depth r samples bits

-- what a reader of such a line keeps
abbrev pub LineReading : Type 0
LineReading = Reading Demodulator
