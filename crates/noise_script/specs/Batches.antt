-- What is added to many symbols at once, place by place.
use Rattle.std.specs.Prelude.{◌≡◌, ℕ, ◌<◌, List, length, get_or}
use Rattle.noise_script.specs.declared.offset.Offset.{Offset}
use Rattle.noise_script.specs.Offsets.{plus, nothing, IsWithin}

-- the sum at a place
abbrev pub at_place : List Offset → ℕ → Offset
at_place sums place = get_or sums place nothing

-- each sum has grown by what is said of its place
pub record Grow (by : ℕ → Offset) (old new : List Offset) : Type 0 where
  pub long : length new ≡ length old
  pub each : (place : ℕ) → place < length old → at_place new place ≡ plus (at_place old place) (by place)

-- no part of a sum is farther from 0 than that
pub record AreWithin (most : ℕ) (sums : List Offset) : Type 0 where
  pub each : (place : ℕ) → place < length sums → IsWithin most (at_place sums place)
