-- Laws of what is decoded of samples that are near the points of a code sequence.
use Rattle.std.specs.Prelude.{ℕ, ◌+◌, ◌≤◌, Bool, List, length, take, None}
use Rattle.shared_terms.specs.Prefix.{IsPrefixOf}
use Rattle.symbol_map.specs.declared.sample.Sample.{Sample}
use Rattle.symbol_map.specs.Points.{point_of}
use Rattle.trellis_tables.specs.Table.{next_state}
use Rattle.exact_decoder.specs.Surviving.Survivors.{IsReleased, LostIs}
use Rattle.exact_decoder.specs.Surviving.V32.{v32_code}
use Rattle.exact_decoder.specs.Decoder.{Decoding, DecoderStands}
use Rattle.noise_bound.specs.Near.{only, sure, sure_of_any, IsNear, Follows}

-- from one start

-- what the first n samples release was sent
abbrev pub ReleasesNear : Type 0
ReleasesNear = (start n : ℕ) (labels front : List ℕ) (samples : List Sample)
    → IsNear sure (only start) labels samples → IsReleased (v32_code (only start)) (take n samples) front → IsPrefixOf front labels

-- and all of it but the latest 126 labels
abbrev pub FewUnreleased : Type 0
FewUnreleased = (start n : ℕ) (labels front : List ℕ) (samples : List Sample) → n ≤ length samples
    → IsNear sure (only start) labels samples → IsReleased (v32_code (only start)) (take n samples) front → n ≤ length front + 126

abbrev pub NeverLost : Type 0
NeverLost = (start depth : ℕ) (labels : List ℕ) (samples : List Sample)
    → IsNear sure (only start) labels samples → 126 ≤ depth → LostIs (v32_code (only start)) depth samples None

abbrev pub DecodesNear : Type 0
DecodesNear = (start depth : ℕ) (labels taken : List ℕ) (samples : List Sample) (d : Decoding) → 126 ≤ depth
    → IsNear sure (only start) labels samples
    → DecoderStands next_state point_of (only start) depth d samples taken → Follows 126 d taken labels

-- from whatever starts

abbrev pub ReleasesNearOfAny : Type 0
ReleasesNearOfAny = (starts : ℕ → Bool) (n : ℕ) (labels front : List ℕ) (samples : List Sample)
    → IsNear sure_of_any starts labels samples → IsReleased (v32_code starts) (take n samples) front → IsPrefixOf front labels

abbrev pub FewUnreleasedOfAny : Type 0
FewUnreleasedOfAny = (starts : ℕ → Bool) (n : ℕ) (labels front : List ℕ) (samples : List Sample) → n ≤ length samples
    → IsNear sure_of_any starts labels samples → IsReleased (v32_code starts) (take n samples) front → n ≤ length front + 116

abbrev pub NeverLostOfAny : Type 0
NeverLostOfAny = (starts : ℕ → Bool) (depth : ℕ) (labels : List ℕ) (samples : List Sample)
    → IsNear sure_of_any starts labels samples → 116 ≤ depth → LostIs (v32_code starts) depth samples None

abbrev pub DecodesNearOfAny : Type 0
DecodesNearOfAny = (starts : ℕ → Bool) (depth : ℕ) (labels taken : List ℕ) (samples : List Sample) (d : Decoding) → 116 ≤ depth
    → IsNear sure_of_any starts labels samples
    → DecoderStands next_state point_of starts depth d samples taken → Follows 116 d taken labels

-- samples that cost nothing
abbrev pub FewUnreleasedWithoutNoise : Type 0
FewUnreleasedWithoutNoise = (starts : ℕ → Bool) (n : ℕ) (labels front : List ℕ) (samples : List Sample) → n ≤ length samples
    → IsNear 1 starts labels samples → IsReleased (v32_code starts) (take n samples) front → n ≤ length front + 29
