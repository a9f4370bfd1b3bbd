-- Survivors of a trellis against samples, what they release, and where a line is lost.
use Rattle.std.specs.Prelude.{◌≡◌, ℕ, ◌+◌, ◌<◌, ◌≤◌, ◌⊎◌, List, length, take, Option, Some, None}
use Rattle.shared_terms.specs.Prefix.{IsPrefixOf}
use Rattle.trellis_tables.specs.Sequences.{cost}
use Rattle.exact_decoder.specs.Surviving.Trellises.{Trellis, IsSequence}
use Rattle.exact_decoder.specs.Surviving.Orders.{Beats}

-- the sequence that beats each other one to this state
pub record IsSurvivor {X : Type 0} (t : Trellis X) (samples : List X) (labels : List ℕ) (state : ℕ) : Type 0 where
  pub sequence : IsSequence t samples labels state
  pub best : (other : List ℕ) → IsSequence t samples other state → (other ≡ labels) ⊎ Beats t.distance samples labels other

-- the list is a prefix of each survivor
abbrev pub IsCommon : {X : Type 0} → Trellis X → List X → List ℕ → Type 0
IsCommon t samples front = (state : ℕ) (labels : List ℕ) → IsSurvivor t samples labels state → IsPrefixOf front labels

-- the longest list that is
pub record IsReleased {X : Type 0} (t : Trellis X) (samples : List X) (front : List ℕ) : Type 0 where
  pub common : IsCommon t samples front
  pub longest : (other : List ℕ) → IsCommon t samples other → IsPrefixOf other front

-- no sequence costs less
pub record IsLeast {X : Type 0} (t : Trellis X) (samples : List X) (labels : List ℕ) : Type 0 where
  pub end : ℕ
  pub sequence : IsSequence t samples labels end
  pub least : (other : List ℕ) (other_end : ℕ) → IsSequence t samples other other_end
      → cost t.distance labels samples ≤ cost t.distance other samples

-- of the least sequences that survive the one of the smallest end state
pub record IsFirstLeast {X : Type 0} (t : Trellis X) (samples : List X) (labels : List ℕ) : Type 0 where
  pub end : ℕ
  pub survivor : IsSurvivor t samples labels end
  pub least : IsLeast t samples labels
  pub first : (state : ℕ) (other : List ℕ) → IsSurvivor t samples other state → IsLeast t samples other → end ≤ state

-- after the first n samples more than depth labels are past the released ones
pub record IsOver {X : Type 0} (t : Trellis X) (depth : ℕ) (samples : List X) (n : ℕ) : Type 0 where
  pub front : List ℕ
  pub released : IsReleased t (take n samples) front
  pub over : length front + depth < n

-- they are so after this symbol, and were not so before it
pub record IsLost {X : Type 0} (t : Trellis X) (depth : ℕ) (samples : List X) (symbol : ℕ) : Type 0 where
  pub within : symbol < length samples
  pub over : IsOver t depth samples (symbol + 1)
  pub first : (n : ℕ) → n ≤ symbol → IsOver t depth samples n → ⊥

-- with which symbol the line is lost, if it is
abbrev pub LostIs : {X : Type 0} → Trellis X → ℕ → List X → Option ℕ → Type 0
LostIs t depth samples None = (n : ℕ) → n ≤ length samples → IsOver t depth samples n → ⊥
LostIs t depth samples (Some symbol) = IsLost t depth samples symbol
