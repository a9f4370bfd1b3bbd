-- Laws of the four-point code: what its decoder makes of samples, and that bits come back.
use Rattle.std.specs.Prelude.{◌≡◌, ℕ, ◌<◌, Bool, List, All, ◌∷◌, ◌++◌, length, nat_eq}
use Rattle.std.specs.List.{flat_map}
use Rattle.frame_check.specs.Bits.{low_bits}
use Rattle.scramblers.specs.Scrambles.{Scrambles}
use Rattle.symbol_map.specs.declared.sample.Sample.{Sample}
use Rattle.symbol_map.specs.Distance.{distance_of}
use Rattle.exact_decoder.specs.Surviving.Trellises.{Trellis, trellis_of}
use Rattle.exact_decoder.specs.Surviving.Survivors.{IsReleased}
use Rattle.trellis_tables.specs.Differential.Turned.{turned}
use Rattle.rate_4800.specs.Code.{next_state, point_of}
use Rattle.rate_4800.specs.Demodulates.{Demodulates}

-- the code from its one state
abbrev pub quarters : Trellis Sample
quarters = trellis_of next_state point_of (λ state. nat_eq state 0)

-- no label is ever undecided
abbrev pub AllAreReleased : Type 0
AllAreReleased = (samples : List Sample) (front : List ℕ) → IsReleased quarters samples front → length front ≡ length samples

-- A sample that is nearer to the point that was sent than half the way to its next point is read as that point's label, whatever the others
-- are. Points are 20 squares of a map unit apart at least, of 2048 squared each, so half the way is 5 of them.
abbrev pub NearOnesAreRead : Type 0
NearOnesAreRead = (before after : List Sample) (sample : Sample) (label : ℕ) (front : List ℕ) → label < 4
    → distance_of (point_of label) sample < 20971520
    → IsReleased quarters (before ++ sample ∷ after) front
    → (earlier : List ℕ) × (later : List ℕ) × (front ≡ earlier ++ label ∷ later) × (length earlier ≡ length before)

-- bits that were scrambled, taken in twos and sent as turns are what the labels carry
abbrev pub ComesBack : Type 0
ComesBack = (tap : ℕ) (bits line : List Bool) (turns : List ℕ)
    → Scrambles tap bits line → line ≡ flat_map (low_bits 2) turns → All (λ n. n < 4) turns → Demodulates tap (turned turns) bits
