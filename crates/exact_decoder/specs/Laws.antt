-- Laws of a code's decoders, over its table of next states, its points, and the states that sequences may start in.
use Rattle.std.specs.Prelude.{◌≡◌, ℕ, ◌+◌, ◌<◌, ◌≤◌, Bool, true, List, ◌++◌, length, map, take, Option}
use Rattle.shared_terms.specs.Prefix.{IsPrefixOf}
use Rattle.symbol_map.specs.declared.sample.Sample.{Sample}
use Rattle.trellis_tables.specs.Sequences.{IsCodeSequence}
use Rattle.exact_decoder.specs.Surviving.Trellises.{Trellis, trellis_of}
use Rattle.exact_decoder.specs.Surviving.Survivors.{IsReleased, IsLeast}
use Rattle.exact_decoder.specs.Decoder.{Decoding, DecoderStands, heard}

-- one state of the code or more
pub record AreStarts (states : ℕ) (starts : ℕ → Bool) : Type 0 where
  pub start : ℕ
  pub starts_there : starts start ≡ true
  pub within : (state : ℕ) → starts state ≡ true → state < states

-- a law of the trellis of this table and these points, from whatever states of the code its sequences start
abbrev pub FromAnyStarts : (ℕ → ℕ → Option ℕ) → (ℕ → Sample) → ℕ → (Trellis Sample → Type 0) → Type 0
FromAnyStarts table points states law = (starts : ℕ → Bool) → AreStarts states starts → law (trellis_of table points starts)

-- The samples are exactly the points of these labels, which are a code sequence.
pub record AreSent (table : ℕ → ℕ → Option ℕ) (points : ℕ → Sample) (starts : ℕ → Bool) (labels : List ℕ)
    (samples : List Sample) : Type 0 where
  pub end : ℕ
  pub code_sequence : IsCodeSequence table starts labels end
  pub exact : samples ≡ map points labels

-- the labels are least, and no others are
pub record IsOnlyLeast (t : Trellis Sample) (samples : List Sample) (labels : List ℕ) : Type 0 where
  pub least : IsLeast t samples labels
  pub only : (other : List ℕ) → IsLeast t samples other → other ≡ labels

-- sent labels are the only sequence of least cost
abbrev pub OnlySentIsLeast : (ℕ → ℕ → Option ℕ) → (ℕ → Sample) → Type 0
OnlySentIsLeast table points = (starts : ℕ → Bool) (labels : List ℕ) (samples : List Sample)
    → AreSent table points starts labels samples → IsOnlyLeast (trellis_of table points starts) samples labels

-- what the first n samples release was sent
abbrev pub ReleasesSent : (ℕ → ℕ → Option ℕ) → (ℕ → Sample) → Type 0
ReleasesSent table points = (starts : ℕ → Bool) (labels : List ℕ) (samples : List Sample) (n : ℕ) (front : List ℕ)
    → AreSent table points starts labels samples → IsReleased (trellis_of table points starts) (take n samples) front
    → IsPrefixOf front labels

-- what a decoder released, taken or not
abbrev pub released_by : Decoding → List ℕ → List ℕ
released_by d taken = taken ++ d.pending

-- It begins a least sequence of the samples up to the one that lost the line.
abbrev pub DecoderReleasesLeast : (ℕ → ℕ → Option ℕ) → (ℕ → Sample) → ℕ → Type 0
DecoderReleasesLeast table points states = (starts : ℕ → Bool) (depth : ℕ) (d : Decoding) (samples : List Sample) (taken : List ℕ)
    → AreStarts states starts → DecoderStands table points starts depth d samples taken
    → (rest : List ℕ) × IsLeast (trellis_of table points starts) (heard d.lost samples) (released_by d taken ++ rest)

-- It is a prefix of what any decoder of more samples released.
abbrev pub DecoderReleasesStay : (ℕ → ℕ → Option ℕ) → (ℕ → Sample) → Type 0
DecoderReleasesStay table points =
    (starts : ℕ → Bool) (depth : ℕ) (d later : Decoding) (samples more : List Sample) (taken later_taken : List ℕ)
    → DecoderStands table points starts depth d samples taken → DecoderStands table points starts depth later (samples ++ more) later_taken
    → IsPrefixOf (released_by d taken) (released_by later later_taken)

-- Of two decoders of the same samples both released the same, and lost the line with the same symbol or not at all.
abbrev pub DecodersAgree : (ℕ → ℕ → Option ℕ) → (ℕ → Sample) → Type 0
DecodersAgree table points = (starts : ℕ → Bool) (depth : ℕ) (d other : Decoding) (samples : List Sample) (taken other_taken : List ℕ)
    → DecoderStands table points starts depth d samples taken → DecoderStands table points starts depth other samples other_taken
    → (released_by d taken ≡ released_by other other_taken) × (d.lost ≡ other.lost)

-- At most one label more than the depth is behind the released ones, whether the line is lost or not.
abbrev pub FewUnreleased : (ℕ → ℕ → Option ℕ) → (ℕ → Sample) → Type 0
FewUnreleased table points = (starts : ℕ → Bool) (depth : ℕ) (d : Decoding) (samples : List Sample) (taken : List ℕ)
    → DecoderStands table points starts depth d samples taken → length (heard d.lost samples) ≤ length (released_by d taken) + (depth + 1)
