-- The patterns in a stream of bits, and those that slots add.
use Rattle.std.specs.Prelude.{◌≡◌, ℕ, zero, suc, ◌+◌, ◌<◌, ◌≤◌, Bool, List, [], ◌∷◌, ◌++◌, All, length, take, Option, Some, None}
use Rattle.lapm_frames.specs.declared.seen.Seen.{Seen}
use Rattle.detection.specs.Patterns.{EndsPattern, seen_at}
use Rattle.detection.specs.Slots.{Signal, pattern_bits, signal_bits}
use Rattle.detection.specs.Slots.Signal.{PatternSlot, MarkSlot, FlagSlot}

-- a pattern that is seen: the number of bits up to its end, and which one it is
pub record Sight : Type 0 where
  pub place : ℕ
  pub seen : Seen

-- what is seen at one place, as a list
abbrev pub sights_at : ℕ → Option Seen → List Sight
sights_at place None = []
sights_at place (Some seen) = record { place = place; seen = seen } ∷ []

-- what is seen in the first so many bits, in order
abbrev pub sights_before : List Bool → ℕ → List Sight
sights_before bits zero = []
sights_before bits (suc n) = sights_before bits n ++ sights_at (suc n) (seen_at (take (suc n) bits))

-- the patterns that are seen in the bits, in order
unfoldable pub sights_of : List Bool → List Sight
sights_of bits = sights_before bits (length bits)

-- so many sights of a pattern, each 36 bits behind the one before, from this place of a slot on
abbrev pub sights_from : ℕ → ℕ → ℕ → Seen → List Sight
sights_from zero start place seen = []
sights_from (suc count) start place seen = record { place = start + place; seen = seen } ∷ sights_from count start (place + 36) seen

-- What is seen in a slot before which so many bits stand: its pattern at the end of its second pattern, and so on up to its tenth. In
-- other slots nothing is.
abbrev pub seen_in : ℕ → Signal → List Sight
seen_in start (PatternSlot seen) = sights_from 9 start 71 seen
seen_in start MarkSlot = []
seen_in start (FlagSlot frame) = []

-- a pattern that ends at this place of a slot, behind the slots before
abbrev pub EndsInSlot : ℕ → List Signal → Signal → Seen → ℕ → Type 0
EndsInSlot size before signal seen place =
    EndsPattern seen (take (length (signal_bits size before) + place) (signal_bits size (before ++ signal ∷ [])))

-- Where one does, the slot is a pattern slot of its kind, and both whole patterns stand in this slot.
pub record IsSent (size : ℕ) (signal : Signal) (seen : Seen) (place : ℕ) : Type 0 where
  pub kind : signal ≡ PatternSlot seen
  pub inside : EndsPattern seen (take place (pattern_bits size seen))

-- what more bits add to the patterns of those before
pub record SightsAdded (bits more : List Bool) (added : List Sight) : Type 0 where
  pub all : sights_of (bits ++ more) ≡ sights_of bits ++ added
  pub places : All (λ sight. (length bits < sight.place) × (sight.place ≤ length (bits ++ more))) added
