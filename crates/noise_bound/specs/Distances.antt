-- How far sequences of labels are from one another.
use Rattle.std.specs.Prelude.{◌≡◌, ◌≢◌, ℕ, ◌+◌, ◌≤◌, List, [], ◌∷◌, length, take}
use Rattle.symbol_map.specs.Distance.{apart}
use Rattle.trellis_tables.specs.Sequences.{Leads}
use Rattle.trellis_tables.specs.Table.{next_state}

-- the sum of the squared distances of labels from those at the same places, in map units
abbrev pub apart_in_all : List ℕ → List ℕ → ℕ
apart_in_all [] b = 0
apart_in_all (x ∷ a) [] = 0
apart_in_all (x ∷ a) (y ∷ b) = apart x y + apart_in_all a b

-- From these states the labels lead to different ones, at each place from the nth on.
abbrev pub AreApartFrom : ℕ → ℕ → ℕ → List ℕ → List ℕ → Type 0
AreApartFrom n s t a b = (i u v : ℕ) → n ≤ i → i ≤ length a → Leads next_state s (take i a) u → Leads next_state t (take i b) v → u ≢ v

-- Another sequence of as many labels leads to this state, and is no farther than so much.
pub record IsReachedNear (from to : ℕ) (labels : List ℕ) (most : ℕ) : Type 0 where
  pub other : List ℕ
  pub leads : Leads next_state from other to
  pub same_length : length other ≡ length labels
  pub near : apart_in_all other labels ≤ most
