-- What bits labels carry.
use Rattle.std.specs.Prelude.{ℕ, Bool, List}
use Rattle.std.specs.List.{flat_map}
use Rattle.frame_check.specs.Bits.{low_bits}
use Rattle.scramblers.specs.Scrambles.{Descrambles}
use Rattle.scramblers.specs.declared.mode.Mode.{Mode}
use Rattle.trellis_tables.specs.Differential.Turned.{unturned}
use Rattle.trellis_tables.specs.Differential.Machines.{UnturnerStands}
use Rattle.line_coding.specs.Modes.{DescramblesAs}
use Rattle.rate_4800.specs.declared.demodulator.Demodulator.{Demodulator}

-- the scrambled bits: those of the turn from each label to the next
abbrev pub line_of : List ℕ → List Bool
line_of labels = flat_map (low_bits 2) (unturned labels)

-- The labels carry these bits: descrambled with the tap, they are those of the turns.
abbrev pub Demodulates : ℕ → List ℕ → List Bool → Type 0
Demodulates tap labels bits = Descrambles tap (line_of labels) bits

-- a demodulator of this mode has read these labels as these bits
pub record DemodulatorStands (mode : Mode) (demodulator : Demodulator) (labels : List ℕ) (bits : List Bool) : Type 0 where
  pub unturner : UnturnerStands demodulator.unturner labels (unturned labels)
  pub descrambler : DescramblesAs mode demodulator.descrambler (line_of labels) bits
