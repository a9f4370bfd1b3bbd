-- What bits labels carry.
use Rattle.std.specs.Prelude.{◌≡◌, ℕ, ◌*◌, ◌<◌, ◌≤◌, Bool, List, All, length, take}
use Rattle.std.specs.List.{flat_map}
use Rattle.frame_check.specs.Bits.{low_bits}
use Rattle.scramblers.specs.Scrambles.{Scrambles, Descrambles}
use Rattle.scramblers.specs.declared.mode.Mode.{Mode}
use Rattle.trellis_tables.specs.Encoder.{Encodes}
use Rattle.trellis_tables.specs.LabelReader.{quads_of, LabelReaderStands}
use Rattle.line_coding.specs.Modes.{DescramblesAs}
use Rattle.line_coding.specs.declared.demodulator.Demodulator.{Demodulator}

-- the scrambled bits: those of each label's quad, in order
abbrev pub line_of : List ℕ → List Bool
line_of labels = flat_map (low_bits 4) (quads_of labels)

-- The labels carry these bits: descrambled with the tap, they are those of the labels' quads.
abbrev pub Demodulates : ℕ → List ℕ → List Bool → Type 0
Demodulates tap labels bits = Descrambles tap (line_of labels) bits

-- a demodulator of this mode has read these labels as these bits
pub record DemodulatorStands (mode : Mode) (demodulator : Demodulator) (labels : List ℕ) (bits : List Bool) : Type 0 where
  pub reader : LabelReaderStands demodulator.reader labels (quads_of labels)
  pub descrambler : DescramblesAs mode demodulator.descrambler (line_of labels) bits

-- labels carry one list of bits
abbrev pub OneReading : Type 0
OneReading = (tap : ℕ) (labels : List ℕ) (bits other : List Bool) → Demodulates tap labels bits → Demodulates tap labels other
    → bits ≡ other

-- four for each label
abbrev pub IsFourTimes : Type 0
IsFourTimes = (tap : ℕ) (labels : List ℕ) (bits : List Bool) → Demodulates tap labels bits → length bits ≡ 4 * length labels

-- bits that were scrambled, taken in fours and coded as labels are what the labels carry
abbrev pub ComesBack : Type 0
ComesBack = (tap : ℕ) (bits line : List Bool) (quads labels : List ℕ) (end : ℕ)
    → Scrambles tap bits line → line ≡ flat_map (low_bits 4) quads → All (λ quad. quad < 16) quads → Encodes quads labels end
    → Demodulates tap labels bits

-- what was read of the first labels stays
abbrev pub FirstBitsStay : Type 0
FirstBitsStay = (tap n : ℕ) (labels : List ℕ) (bits : List Bool) → 1 ≤ tap → Demodulates tap labels bits
    → Demodulates tap (take n labels) (take (4 * n) bits)
