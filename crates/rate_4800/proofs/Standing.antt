-- What a modulator and a demodulator of either mode have made.
use Rattle.rate_4800.proofs.Names.{◌∙◌, ℕ, Bool, List, ap, map, DescramblesAs, point_of, Demodulates, Scrambles, Descrambles, Sample}
use Rattle.scramblers.specs.declared.mode.Mode.{Mode}
use Rattle.scramblers.specs.declared.mode.Mode.TheVariants.{Call, Answer}
use Rattle.scramblers.specs.Mode.{tap_of}
use Rattle.line_coding.specs.declared.scrambling.ModeScrambler.{ModeScrambler}
use Rattle.line_coding.specs.declared.scrambling.ModeScrambler.TheVariants as scramblers
use Rattle.line_coding.specs.declared.scrambling.ModeDescrambler.{ModeDescrambler}
use Rattle.line_coding.specs.declared.scrambling.ModeDescrambler.TheVariants as descramblers
use Rattle.line_coding.specs.Modes.{ScramblesAs}
use Rattle.rate_4800.specs.declared.modulator.Modulator.{Modulator}
use Rattle.rate_4800.specs.declared.demodulator.Demodulator.{Demodulator}
use Rattle.rate_4800.specs.Demodulates.{DemodulatorStands}
use Rattle.rate_4800.specs.Modulates.{Modulates, ModulatorStands}

scrambled-as : (mode : Mode) (s : ModeScrambler) (input line : List Bool) → ScramblesAs mode s input line
    → Scrambles (tap_of mode) input line
scrambled-as Call (scramblers.Call s) input line h = h.scrambled
scrambled-as Answer (scramblers.Answer s) input line h = h.scrambled
scrambled-as Call (scramblers.Answer s) input line h = absurd h
scrambled-as Answer (scramblers.Call s) input line h = absurd h

descrambled-as : (mode : Mode) (d : ModeDescrambler) (line output : List Bool) → DescramblesAs mode d line output
    → Descrambles (tap_of mode) line output
descrambled-as Call (descramblers.Call d) line output h = h.descrambled
descrambled-as Answer (descramblers.Answer d) line output h = h.descrambled
descrambled-as Call (descramblers.Answer d) line output h = absurd h
descrambled-as Answer (descramblers.Call d) line output h = absurd h

-- a modulator's samples are those of its bits
pub modulated : (mode : Mode) (m : Modulator) (bits : List Bool) (samples : List Sample) → ModulatorStands mode m bits samples
    → Modulates (tap_of mode) bits samples
modulated mode m bits samples h = record {
  line = h.line;
  turns = h.turns;
  scrambled = scrambled-as mode m.scrambler bits h.line h.scrambler;
  in_twos = h.in_twos;
  are_turns = h.are_turns;
  points = h.points ∙ ap (λ labels. map point_of labels) h.turner.turned_is;
}

-- a demodulator's bits are those that its labels carry
pub demodulated : (mode : Mode) (d : Demodulator) (labels : List ℕ) (bits : List Bool) → DemodulatorStands mode d labels bits
    → Demodulates (tap_of mode) labels bits
demodulated mode d labels bits h = descrambled-as mode d.descrambler _ bits h.descrambler
