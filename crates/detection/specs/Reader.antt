-- What a reader of patterns keeps, and the bits for which it stands.
use Rattle.std.specs.Prelude.{◌≡◌, ℕ, ◌+◌, ◌-◌, ◌<◌, ◌≤◌, Bool, true, List, ◌++◌, reverse, slice_index_or, Option, Some, None}
use Rattle.std.specs.Int.{bit_at}
use Rattle.frame_check.specs.Bits.{number}
use Rattle.lapm_frames.specs.declared.seen.Seen.{Seen}
use Rattle.detection.specs.Patterns.{first, second, ones, shortest_gap, longest_gap}

-- A number's low bits, so many, are the first of these bits, where ones stand behind the last.
pub record Holds (width latest : ℕ) (recent : List Bool) : Type 0 where
  pub each : (place : ℕ) → place < width → bit_at latest place ≡ number (slice_index_or recent place true)

-- a number has the latest 128 bits, the last one lowest
abbrev pub ReaderStands : ℕ → List Bool → Type 0
ReaderStands latest bits = Holds 128 latest (reverse bits)

-- Bits, the latest one first, begin with ones and a character, from the shortest gap to so many ones.
pub record EndsCharacter (character : List Bool) (most : ℕ) (recent rest : List Bool) : Type 0 where
  pub gap : ℕ
  pub low : shortest_gap ≤ gap
  pub high : gap ≤ most
  pub ends : recent ≡ ones gap ++ (character ++ rest)

-- they begin with a whole pattern
pub record EndsOnce (seen : Seen) (most : ℕ) (recent rest : List Bool) : Type 0 where
  pub middle : List Bool
  pub later : EndsCharacter (reverse (second seen)) most recent middle
  pub earlier : EndsCharacter (reverse (first seen)) longest_gap middle rest

-- the most bits of a whole pattern without the ones behind it: two characters of nine bits, with the longest gap between them
abbrev pub whole_pattern : ℕ
whole_pattern = 9 + longest_gap + 9

-- What is left behind a character, if the bits begin with it: a number that has the bits that follow.
abbrev pub LeftBehind : ℕ → List Bool → ℕ → List Bool → Option ℕ → Type 0
LeftBehind width character most recent None = (rest : List Bool) → EndsCharacter character most recent rest → ⊥
LeftBehind width character most recent (Some left) =
    (rest : List Bool) × EndsCharacter character most recent rest × Holds (width - (most + 9)) left rest

-- the same for a whole pattern
abbrev pub LeftBehindOnce : ℕ → Seen → ℕ → List Bool → Option ℕ → Type 0
LeftBehindOnce width seen most recent None = (rest : List Bool) → EndsOnce seen most recent rest → ⊥
LeftBehindOnce width seen most recent (Some left) =
    (rest : List Bool) × EndsOnce seen most recent rest × Holds (width - (most + whole_pattern)) left rest
