-- What a reader's tail and its bits make of the line's end.
use Rattle.gateway.proofs.Names.{arith, ℕ, Bool, List, ◌++◌, at_beginning, Read, ReadsAs, LineKind, DemodulatorStands, Reading, SamplesRead}
use Rattle.gateway.proofs.Names.{Mode, point_of, Sample, next_state}
use Rattle.exact_decoder.specs.Surviving.V32.{line_depth}
use Rattle.line_coding.specs.Reading.{IsFinished}
use Rattle.line_coding.specs.declared.demodulator.Demodulator.{Demodulator}
use Rattle.rate_4800.specs.Code.{next_state as next_quarter, point_of as quarter_of}
use Rattle.rate_4800.specs.Demodulates.{DemodulatorStands as QuarterDemodulatorStands}
use Rattle.rate_4800.specs.declared.demodulator.Demodulator.{Demodulator as QuarterDemodulator}
use Rattle.gateway.specs.declared.any_reader.AnyReader.TheVariants as readers
use Rattle.gateway.specs.declared.any_reader.LineKind.TheVariants as lines
use Rattle.gateway.specs.Reads.{Ends}

pub begun-ends : (line : LineKind) (mode : Mode) (r : Reading Demodulator) (samples : List Sample) (before more : List Bool) (tail : List ℕ)
    (d : Demodulator)
    → (SamplesRead next_state point_of (DemodulatorStands mode) at_beginning line_depth r samples before
    → IsFinished next_state point_of (DemodulatorStands mode) at_beginning samples before tail d)
    → ((labels : List ℕ) → DemodulatorStands mode d labels before → Read (DemodulatorStands mode) (labels ++ tail) (before ++ more))
    → ReadsAs line mode (readers.Begun r) samples before → Ends line mode samples before more
begun-ends line mode r samples before more tail d finish put start = grind (arith)

pub quarters-end : (line : LineKind) (mode : Mode) (r : Reading QuarterDemodulator) (samples : List Sample) (before more : List Bool)
    (tail : List ℕ) (d : QuarterDemodulator)
    → (SamplesRead next_quarter quarter_of (QuarterDemodulatorStands mode) at_beginning line_depth r samples before
    → IsFinished next_quarter quarter_of (QuarterDemodulatorStands mode) at_beginning samples before tail d)
    → ((labels : List ℕ) → QuarterDemodulatorStands mode d labels before
    → Read (QuarterDemodulatorStands mode) (labels ++ tail) (before ++ more))
    → ReadsAs line mode (readers.Quarters r) samples before → Ends line mode samples before more
quarters-end line mode r samples before more tail d finish put start = grind (arith)
