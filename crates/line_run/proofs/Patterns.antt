-- The laws of pattern slots that the lemmas here are handed.
use Rattle.line_run.proofs.Cited.{◌≡◌, ℕ, ◌<◌, Bool, List, [], ◌∷◌, ◌++◌, length, refl, AreSlots, IsPlain, Sight, SightsAdded, seen_in}
use Rattle.line_run.proofs.Cited.{Signal, pattern_bits, signal_bits, slots_of, Seen}
use Rattle.detection.specs.Sights.{sights_of}
use Rattle.detection.specs.Patterns.{ones}

-- patterns and ones may fill a slot
pub record ArePlain : Type 0 where
  pub patterns : (size : ℕ) (seen : Seen) → 552 < size → IsPlain size (pattern_bits size seen)
  pub marks : (size : ℕ) → 552 < size → IsPlain size (ones size)

-- what is seen stays, and in a slot it is what was sent in it
pub record AreSeen : Type 0 where
  pub plain : ArePlain
  pub stay : (bits more : List Bool) → (added : List Sight) × SightsAdded bits more added
  pub sent : (size : ℕ) (before : List Signal) (signal : Signal) → 552 < size → AreSlots size 0 (slots_of size (before ++ signal ∷ []))
      → sights_of (signal_bits size (before ++ signal ∷ [])) ≡ sights_of (signal_bits size before) ++ seen_in
      (length (signal_bits size before)) signal

pub none-seen : sights_of [] ≡ []
unfolding sights_of
none-seen = refl
