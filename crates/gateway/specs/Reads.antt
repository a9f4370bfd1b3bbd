-- For which samples and bits a reader of any line stands.
use Rattle.std.specs.Prelude.{◌≡◌, ℕ, Bool, List, [], ◌++◌, Option}
use Rattle.scramblers.specs.declared.mode.Mode.{Mode}
use Rattle.symbol_map.specs.declared.sample.Sample.{Sample}
use Rattle.exact_decoder.specs.Surviving.Survivors.{IsFirstLeast}
use Rattle.exact_decoder.specs.Surviving.Trellises.{trellis_of}
use Rattle.exact_decoder.specs.Surviving.V32.{at_beginning, line_depth}
use Rattle.symbol_map.specs.Points.{point_of}
use Rattle.trellis_tables.specs.Table.{next_state}
use Rattle.line_coding.specs.Reading.{SamplesRead}
use Rattle.line_coding.specs.V32.{LineRead}
use Rattle.line_coding.specs.MiddleReading.{MiddleRead}
use Rattle.line_coding.specs.Demodulates.{DemodulatorStands}
use Rattle.rate_4800.specs.Code.{next_state as next_quarter, point_of as quarter_of}
use Rattle.rate_4800.specs.Demodulates.{DemodulatorStands as QuarterDemodulatorStands}
use Rattle.gateway.specs.declared.any_reader.AnyReader.{AnyReader}
use Rattle.gateway.specs.declared.any_reader.AnyReader.TheVariants as readers
use Rattle.gateway.specs.declared.any_reader.LineKind.{LineKind}
use Rattle.gateway.specs.declared.any_reader.LineKind.TheVariants as lines

-- the samples of such a line, sent by a modem of this mode, are read as these bits
abbrev pub ReadsAs : LineKind → Mode → AnyReader → List Sample → List Bool → Type 0
ReadsAs lines.Begun mode (readers.Begun r) samples bits = LineRead mode at_beginning line_depth r samples bits
ReadsAs lines.Begun mode (readers.Middle m) samples bits = ⊥
ReadsAs lines.Begun mode (readers.Quarters r) samples bits = ⊥
ReadsAs lines.Middle mode (readers.Begun r) samples bits = ⊥
ReadsAs lines.Middle mode (readers.Middle m) samples bits = MiddleRead mode line_depth m samples bits
ReadsAs lines.Middle mode (readers.Quarters r) samples bits = ⊥
ReadsAs lines.Quarters mode (readers.Begun r) samples bits = ⊥
ReadsAs lines.Quarters mode (readers.Middle m) samples bits = ⊥
ReadsAs lines.Quarters mode (readers.Quarters r) samples bits =
    SamplesRead next_quarter quarter_of (QuarterDemodulatorStands mode) at_beginning line_depth r samples bits

-- what reads labels has read these as these bits
pub record Read {D : Type 0} (reads : D → List ℕ → List Bool → Type 0) (labels : List ℕ) (bits : List Bool) : Type 0 where
  pub reader : D
  pub read : reads reader labels bits

-- The bits are those of the least sequence of labels, of several the one that ends in the smallest state.
pub record FirstLeast {D : Type 0} (reads : D → List ℕ → List Bool → Type 0) (next : ℕ → ℕ → Option ℕ) (point : ℕ → Sample) (samples : List Sample)
    (bits : List Bool) : Type 0 where
  pub labels : List ℕ
  pub least : IsFirstLeast (trellis_of next point at_beginning) samples labels
  pub carried : Read reads labels bits

-- What is given at a line's end behind the bits before: with these they are those of the least sequence. Of a line's middle nothing is given.
abbrev pub Ends : LineKind → Mode → List Sample → List Bool → List Bool → Type 0
Ends lines.Begun mode samples before last = FirstLeast (DemodulatorStands mode) next_state point_of samples (before ++ last)
Ends lines.Middle mode samples before last = last ≡ []
Ends lines.Quarters mode samples before last = FirstLeast (QuarterDemodulatorStands mode) next_quarter quarter_of samples (before ++ last)
