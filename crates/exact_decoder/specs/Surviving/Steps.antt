-- One sample more: how survivors follow from those before it. The sums are costs up to one number that all have in common.
use Rattle.std.specs.Prelude.{◌≡◌, ℕ, ◌+◌, ◌<◌, ◌≤◌, ◌⊎◌, List, [], ◌∷◌, ◌++◌, Option, Some, None}
use Rattle.trellis_tables.specs.Sequences.{cost}
use Rattle.exact_decoder.specs.Surviving.Trellises.{Trellis, IsSequence}
use Rattle.exact_decoder.specs.Surviving.Survivors.{IsSurvivor}

-- the branch by which a survivor entered its state
pub record Branch : Type 0 where
  pub before : ℕ
  pub label : ℕ

-- no sequence leads to a state, or the path is its survivor, and costs the sum and the base
abbrev pub KnowsState : {X : Type 0} → Trellis X → List X → ℕ → (ℕ → List ℕ) → ℕ → Option ℕ → Type 0
KnowsState t samples base paths state None = (labels : List ℕ) → IsSequence t samples labels state → ⊥
KnowsState t samples base paths state (Some sum) =
    IsSurvivor t samples (paths state) state × (cost t.distance (paths state) samples ≡ base + sum)

-- the sums and paths of all states
pub record Keeps {X : Type 0} (t : Trellis X) (samples : List X) (base : ℕ) (sums : ℕ → Option ℕ) (paths : ℕ → List ℕ) : Type 0 where
  pub knows : (state : ℕ) → KnowsState t samples base paths state (sums state)

-- a branch into a state, with the sum that it leads to
pub record Enters {X : Type 0} (t : Trellis X) (sample : X) (sums : ℕ → Option ℕ) (to : ℕ) (b : Branch) (sum : ℕ) : Type 0 where
  pub leads : t.next b.before b.label ≡ Some to
  pub known : ℕ
  pub reached : sums b.before ≡ Some known
  pub sum_is : sum ≡ known + t.distance b.label sample

-- no branch enters, or the one of the least sum, and of equal sums of the least label
abbrev pub Chooses : {X : Type 0} → Trellis X → X → (ℕ → Option ℕ) → ℕ → Option Branch → Option ℕ → Type 0
Chooses t sample sums to None None = (b : Branch) (n : ℕ) → Enters t sample sums to b n → ⊥
Chooses t sample sums to (Some b) (Some sum) =
    Enters t sample sums to b sum × ((d : Branch) (n : ℕ) → Enters t sample sums to d n → (sum < n) ⊎ ((sum ≡ n) × (b.label ≤ d.label)))
Chooses t sample sums to None (Some sum) = ⊥
Chooses t sample sums to (Some b) None = ⊥

-- each path goes on by the branch that was chosen
abbrev pub GoesOn : (ℕ → List ℕ) → (ℕ → Option Branch) → (ℕ → List ℕ) → Type 0
GoesOn paths column next_paths = (to : ℕ) (b : Branch) → column to ≡ Some b → next_paths to ≡ paths b.before ++ b.label ∷ []
