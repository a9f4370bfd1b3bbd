-- The two patterns, and where they end in a stream of bits.
use Rattle.std.specs.Prelude.{◌≡◌, ℕ, zero, suc, ◌+◌, ◌-◌, ◌≤◌, Bool, true, false, ◌||◌, if◌then◌else◌, List, [], ◌∷◌, ◌++◌, replicate, Option, Some, None}
use Rattle.std.specs.Bool.{beq}
use Rattle.std.specs.List.{ends_with}
use Rattle.lapm_frames.specs.declared.seen.Seen.{Seen}
use Rattle.lapm_frames.specs.declared.seen.Seen.TheVariants.{Odp, Adp}

-- A pattern has two characters in turn: a start bit, seven bits of data and another bit. The originator's are DC1 with even
-- and with odd parity, the answerer's E and C.

abbrev pub first : Seen → List Bool
first Odp = false ∷ true ∷ false ∷ false ∷ false ∷ true ∷ false ∷ false ∷ false ∷ []
first Adp = false ∷ true ∷ false ∷ true ∷ false ∷ false ∷ false ∷ true ∷ false ∷ []

abbrev pub second : Seen → List Bool
second Odp = false ∷ true ∷ false ∷ false ∷ false ∷ true ∷ false ∷ false ∷ true ∷ []
second Adp = false ∷ true ∷ true ∷ false ∷ false ∷ false ∷ false ∷ true ∷ false ∷ []

-- the fewest ones behind a character, its stop bit among them, and the most
abbrev pub shortest_gap : ℕ
shortest_gap = 8

abbrev pub longest_gap : ℕ
longest_gap = 17

-- so many ones
abbrev pub ones : ℕ → List Bool
ones count = replicate count true

-- two whole patterns with these gaps, up to the first ones behind the last character that can be a gap
abbrev pub twice : Seen → ℕ → ℕ → ℕ → List Bool
twice seen a b e = first seen ++ ones a ++ second seen ++ ones b ++ first seen ++ ones e ++ second seen ++ ones shortest_gap

-- the ones behind a character, its stop bit among them
pub record IsGap (count : ℕ) : Type 0 where
  pub low : shortest_gap ≤ count
  pub high : count ≤ longest_gap

-- the bits end with two whole patterns
pub record EndsPattern (seen : Seen) (bits : List Bool) : Type 0 where
  pub before : List Bool
  pub a : ℕ
  pub b : ℕ
  pub e : ℕ
  pub a_gap : IsGap a
  pub b_gap : IsGap b
  pub e_gap : IsGap e
  pub ends : bits ≡ before ++ twice seen a b e

-- what is answered at the last of the bits
abbrev pub IsSeen : List Bool → Option Seen → Type 0
IsSeen bits None = (seen : Seen) → EndsPattern seen bits → ⊥
IsSeen bits (Some seen) = EndsPattern seen bits

-- whether some number below this one passes the test
abbrev pub some_below : ℕ → (ℕ → Bool) → Bool
some_below zero test = false
some_below (suc n) test = test n || some_below n test

-- whether some gap does
abbrev pub some_gap : (ℕ → Bool) → Bool
some_gap test = some_below (longest_gap + 1 - shortest_gap) (λ more. test (shortest_gap + more))

-- whether the bits end with two whole patterns
abbrev pub ends_pattern : Seen → List Bool → Bool
ends_pattern seen bits = some_gap (λ a. some_gap (λ b. some_gap (λ e. ends_with beq bits (twice seen a b e))))

-- The answer at the last of the bits, as a function. That it is the one of the definition above is a law.
unfoldable pub seen_at : List Bool → Option Seen
seen_at bits = if ends_pattern Odp bits then Some Odp else (if ends_pattern Adp bits then Some Adp else None)
