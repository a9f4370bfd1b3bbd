-- Laws of lines without noise.
use Rattle.std.specs.Prelude.{◌≡◌, ℕ, ◌+◌, ◌<◌, ◌≤◌, nat_eq, List, ◌++◌, length, take, None}
use Rattle.shared_terms.specs.Prefix.{IsPrefixOf}
use Rattle.symbol_map.specs.declared.sample.Sample.{Sample}
use Rattle.symbol_map.specs.Points.{point_of}
use Rattle.trellis_tables.specs.Table.{next_state}
use Rattle.exact_decoder.specs.Surviving.Trellises.{HasLaws}
use Rattle.exact_decoder.specs.Surviving.Survivors.{IsReleased, LostIs}
use Rattle.exact_decoder.specs.Decoder.{Decoding, DecoderStands}
use Rattle.exact_decoder.specs.Laws.{IsOnlyLeast}
use Rattle.noise_bound.specs.Noiseless.{v32_from, IsNoiseless}

-- the code from one of its states has the laws of a code
abbrev pub V32HasLaws : Type 0
V32HasLaws = (start : ℕ) → start < 8 → HasLaws (v32_from start) 8 32 2

-- the sent labels are least, and no others are
abbrev pub OnlySentIsLeast : Type 0
OnlySentIsLeast = (start : ℕ) (labels : List ℕ) (samples : List Sample)
    → IsNoiseless start labels samples → IsOnlyLeast (v32_from start) samples labels

-- what the first n samples release was sent
abbrev pub ReleasesSent : Type 0
ReleasesSent = (start : ℕ) (labels : List ℕ) (samples : List Sample) (n : ℕ) (front : List ℕ)
    → IsNoiseless start labels samples → IsReleased (v32_from start) (take n samples) front → IsPrefixOf front labels

-- and all of it but the latest 24 labels
abbrev pub FewUnreleased : Type 0
FewUnreleased = (start : ℕ) (labels : List ℕ) (samples : List Sample) (n : ℕ) (front : List ℕ) → n ≤ length samples
    → IsNoiseless start labels samples → IsReleased (v32_from start) (take n samples) front → n ≤ length front + 24

abbrev pub NeverLost : Type 0
NeverLost = (start depth : ℕ) (labels : List ℕ) (samples : List Sample)
    → IsNoiseless start labels samples → 24 ≤ depth → LostIs (v32_from start) depth samples None

-- what a decoder knows of such a line
pub record Follows (d : Decoding) (taken labels : List ℕ) : Type 0 where
  pub never_lost : d.lost ≡ None
  pub was_sent : IsPrefixOf (taken ++ d.pending) labels
  pub few_to_come : length labels ≤ length (taken ++ d.pending) + 24

abbrev pub DecodesNoiseless : Type 0
DecodesNoiseless = (start depth : ℕ) (labels taken : List ℕ) (samples : List Sample) (d : Decoding) → 24 ≤ depth
    → IsNoiseless start labels samples
    → DecoderStands next_state point_of (λ state. nat_eq state start) depth d samples taken → Follows d taken labels
