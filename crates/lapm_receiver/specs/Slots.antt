-- What a receiver holds in a row of slots, one a number. A slot is empty until its segment has come. The numbers go on from that of the
-- first segment that isn't delivered.
use Rattle.std.specs.Prelude.{ℕ, ◌+◌, ◌≤◌, Bool, true, false, if◌then◌else◌, ◌&&◌, nat_le, is_none, List, [], ◌∷◌, Option, Some, None}
use Rattle.lapm_receiver.specs.Held.{Held}

-- the segments taken in order that aren't delivered, and those that came before their turn
pub record Arrived : Type 0 where
  pub room : ℕ
  pub taken : ℕ
  pub ready : List (List ℕ)
  pub held : List Held

abbrev pub is_empty : Option (List ℕ) → Bool
is_empty slot = is_none slot

-- what stands in a slot, if there is one
abbrev pub info_at : Option (Option (List ℕ)) → Option (List ℕ)
info_at None = None
info_at (Some slot) = slot

-- what stands before the first empty slot
abbrev pub ready_of : List (Option (List ℕ)) → List (List ℕ)
ready_of [] = []
ready_of (None ∷ slots) = []
ready_of (Some info ∷ slots) = info ∷ ready_of slots

-- what came, where the first slot has this number
abbrev pub held_from : ℕ → List (Option (List ℕ)) → List Held
held_from n [] = []
held_from n (None ∷ slots) = held_from (n + 1) slots
held_from n (Some info ∷ slots) = (record { number = n; info = info }) ∷ held_from (n + 1) slots

-- what stands behind the first empty slot, which has this number
abbrev pub held_after : ℕ → List (Option (List ℕ)) → List Held
held_after n [] = []
held_after n (None ∷ slots) = held_from (n + 1) slots
held_after n (Some info ∷ slots) = held_after n slots

abbrev pub any_held : List (Option (List ℕ)) → Bool
any_held [] = false
any_held (None ∷ slots) = any_held slots
any_held (Some info ∷ slots) = true

-- the first empty slot before a full one whose number isn't below a limit, where the first slot has this number
abbrev pub missing_among : ℕ → ℕ → List (Option (List ℕ)) → Option ℕ
missing_among low n [] = None
missing_among low n (None ∷ slots) = if any_held slots && nat_le low n then Some n else missing_among low (n + 1) slots
missing_among low n (Some info ∷ slots) = missing_among low (n + 1) slots

-- the numbers rise, from this one on
abbrev pub IsRising : ℕ → List Held → Type 0
IsRising n [] = Unit {0}
IsRising n (h ∷ hs) = (n ≤ h.number) × IsRising (h.number + 1) hs
