-- Laws of what is picked up.
use Rattle.std.specs.Prelude.{◌≡◌, ℕ, ◌+◌, ◌*◌, ◌≤◌, Bool, List, map, drop}
use Rattle.scramblers.specs.declared.mode.Mode.{Mode}
use Rattle.scramblers.specs.Mode.{tap_of}
use Rattle.symbol_map.specs.declared.sample.Sample.{Sample}
use Rattle.symbol_map.specs.Points.{point_of}
use Rattle.symbol_map.specs.Laws.{turned_label}
use Rattle.trellis_tables.specs.Table.{next_state}
use Rattle.exact_decoder.specs.Decoder.{DecoderStands}
use Rattle.line_coding.specs.Demodulates.{Demodulates}
use Rattle.exact_decoder.specs.Surviving.V32.{at_any}
use Rattle.line_coding.specs.PickedUp.{IsPickedUp}
use Rattle.line_coding.specs.MiddleReading.{Middle, MiddleRead}

-- labels give one list of bits
abbrev pub PickedUpOnce : Type 0
PickedUpOnce = (tap : ℕ) (labels : List ℕ) (bits other : List Bool) → IsPickedUp tap labels bits → IsPickedUp tap labels other
    → bits ≡ other

-- turned labels give the same
abbrev pub TurnedAreAlike : Type 0
TurnedAreAlike = (tap : ℕ) (labels : List ℕ) (bits other : List Bool) → IsPickedUp tap labels bits
    → IsPickedUp tap (map turned_label labels) other → bits ≡ other

-- The labels of a line carry these bits. Those behind the first n give what is carried behind their own first quad and 23 bits more.
abbrev pub MiddleIsSent : Type 0
MiddleIsSent = (tap n : ℕ) (labels : List ℕ) (sent bits : List Bool) → tap ≤ 23 → Demodulates tap labels sent
    → IsPickedUp tap (drop n labels) bits
    → bits ≡ drop (4 * (n + 1) + 23) sent

-- What a reader has read of a line's middle is picked up of the labels that it took from its decoder.
pub record ReadsMiddle (mode : Mode) (depth : ℕ) (m : Middle) (samples : List Sample) (bits : List Bool) : Type 0 where
  pub labels : List ℕ
  pub decoder : DecoderStands next_state point_of at_any depth m.reading.decoder samples labels
  pub picked_up : IsPickedUp (tap_of mode) labels bits

abbrev pub ReadersPickUp : Type 0
ReadersPickUp = (mode : Mode) (depth : ℕ) (m : Middle) (samples : List Sample) (bits : List Bool) → MiddleRead mode depth m samples bits
    → ReadsMiddle mode depth m samples bits
