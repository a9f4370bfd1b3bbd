-- What the rates differ in: the code, and the bits that its labels carry.
use Rattle.std.specs.Prelude.{ℕ, Bool, List}
use Rattle.symbol_map.specs.declared.sample.Sample.{Sample}
use Rattle.scramblers.specs.Scrambles.{Descrambles}
use Rattle.exact_decoder.specs.Surviving.Trellises.{Trellis}
use Rattle.exact_decoder.specs.Surviving.V32.{line_trellis}
use Rattle.line_coding.specs.Demodulates.{line_of}
use Rattle.rate_4800.specs.Demodulates.{line_of as quarter_line_of}
use Rattle.rate_4800.specs.Laws.{quarters}
use Rattle.recordings.specs.declared.rate.Rate.{Rate}
use Rattle.recordings.specs.declared.rate.Rate.TheVariants as rates

-- the code of a line, whose sequences start in state 0
abbrev pub trellis_at : Rate → Trellis Sample
trellis_at rates.Trellis = line_trellis
trellis_at rates.Quarters = quarters

-- the scrambled bits of labels
abbrev pub line_at : Rate → List ℕ → List Bool
line_at rates.Trellis labels = line_of labels
line_at rates.Quarters labels = quarter_line_of labels

-- The labels carry these bits: descrambled with the tap, they are those of the line.
abbrev pub DemodulatesAt : Rate → ℕ → List ℕ → List Bool → Type 0
DemodulatesAt rate tap labels bits = Descrambles tap (line_at rate labels) bits
