-- How lists of labels are compared.
use Rattle.std.specs.Prelude.{◌≡◌, ℕ, ◌<◌, ◌⊎◌, List, [], ◌∷◌}
use Rattle.trellis_tables.specs.Sequences.{cost}

-- less, where labels are compared from the last to the first
abbrev pub LessFromLast : List ℕ → List ℕ → Type 0
LessFromLast [] b = ⊥
LessFromLast (x ∷ a) [] = ⊥
LessFromLast (x ∷ a) (y ∷ b) = LessFromLast a b ⊎ ((a ≡ b) × (x < y))

-- costs less, or costs the same and is less
abbrev pub Beats : {X : Type 0} → (ℕ → X → ℕ) → List X → List ℕ → List ℕ → Type 0
Beats distance samples a b =
    (cost distance a samples < cost distance b samples) ⊎ ((cost distance a samples ≡ cost distance b samples) × LessFromLast a b)
