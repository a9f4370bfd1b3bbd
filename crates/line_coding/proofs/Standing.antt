-- What a modulator and a demodulator of either mode have made.
use Rattle.line_coding.proofs.Names.{arith, ℕ, Bool, List, Demodulates, DescramblesAs, ModulatorStands, tap_of, Scrambles, Descrambles}
use Rattle.line_coding.proofs.Names.{Mode, Sample}
use Rattle.line_coding.specs.declared.modulator.Modulator.{Modulator}
use Rattle.line_coding.specs.declared.demodulator.Demodulator.{Demodulator}
use Rattle.line_coding.specs.declared.scrambling.ModeScrambler.{ModeScrambler}
use Rattle.line_coding.specs.declared.scrambling.ModeDescrambler.{ModeDescrambler}
use Rattle.line_coding.specs.Modes.{ScramblesAs}
use Rattle.line_coding.specs.Modulates.{Modulates}
use Rattle.line_coding.specs.Demodulates.{DemodulatorStands}

scrambled-as : (mode : Mode) (s : ModeScrambler) (input line : List Bool) → ScramblesAs mode s input line
    → Scrambles (tap_of mode) input line
scrambled-as q0 q1 input line h = grind (arith)

descrambled-as : (mode : Mode) (d : ModeDescrambler) (line output : List Bool) → DescramblesAs mode d line output
    → Descrambles (tap_of mode) line output
descrambled-as q0 q1 line output h = grind (arith)

-- a modulator's samples are those of its bits
pub modulated : (mode : Mode) (m : Modulator) (bits : List Bool) (samples : List Sample) → ModulatorStands mode m bits samples
    → Modulates (tap_of mode) bits samples
modulated mode m bits samples h = record {
  line = h.line;
  quads = h.quads;
  labels = h.labels;
  end = m.encoder.state;
  scrambled = scrambled-as mode m.scrambler bits h.line h.scrambler;
  in_fours = h.in_fours;
  are_quads = h.are_quads;
  encoded = h.encoder.encodes;
  points = h.points;
}

-- a demodulator's bits are those that its labels carry
pub demodulated : (mode : Mode) (d : Demodulator) (labels : List ℕ) (bits : List Bool) → DemodulatorStands mode d labels bits
    → Demodulates (tap_of mode) labels bits
demodulated mode d labels bits h = descrambled-as mode d.descrambler _ bits h.descrambler
