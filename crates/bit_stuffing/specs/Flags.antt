-- Where flags and aborts are in a stream of bits.
use Rattle.std.specs.Prelude.{◌≡◌, ℕ, ◌+◌, ◌-◌, ◌<◌, ◌≤◌, Bool, true, false, List, [], ◌∷◌, length, slice_index_or}

-- the bit at a place
abbrev pub bit_of : List Bool → ℕ → Bool
bit_of bits i = slice_index_or bits i false

-- a zero, six ones and a zero
abbrev pub flag : List Bool
flag = false ∷ true ∷ true ∷ true ∷ true ∷ true ∷ true ∷ false ∷ []

-- the eight bits before place n are a flag
pub record FlagEndsAt (bits : List Bool) (n : ℕ) : Type 0 where
  pub room : 8 ≤ n
  pub within : n ≤ length bits
  pub spelled : (i : ℕ) → i < 8 → bit_of bits (n - 8 + i) ≡ bit_of flag i

-- the seven bits before place n are ones
pub record SevenOnesEndAt (bits : List Bool) (n : ℕ) : Type 0 where
  pub room : 7 ≤ n
  pub within : n ≤ length bits
  pub ones : (i : ℕ) → i < 7 → bit_of bits (n - 7 + i) ≡ true

-- The latest flag ends at place p, and no seven ones in a row stand behind it: a flag was found since the start or the last abort.
pub record OpenedAt (bits : List Bool) (p : ℕ) : Type 0 where
  pub flag_ends : FlagEndsAt bits p
  pub latest : (q : ℕ) → p < q → FlagEndsAt bits q → ⊥
  pub alive : (q : ℕ) → p + 7 ≤ q → SevenOnesEndAt bits q → ⊥

-- eight bits or more stand behind the flag that is open
pub record IsFar (bits : List Bool) : Type 0 where
  pub opened : ℕ
  pub is_opened : OpenedAt bits opened
  pub far : opened + 8 ≤ length bits

-- fewer do, if one is open
abbrev pub IsNear : List Bool → Type 0
IsNear bits = (p : ℕ) → OpenedAt bits p → length bits < p + 8

-- The last of the bits is the seventh one in a row, and before it a flag was open.
pub record Aborts (past bits : List Bool) : Type 0 where
  pub opened : ℕ
  pub is_opened : OpenedAt past opened
  pub seventh : SevenOnesEndAt bits (length bits)

-- The last of the bits ends a flag, and before it another one was open. Something stands between the two: they neither share a zero
-- nor stand side by side.
pub record Closes (past bits : List Bool) : Type 0 where
  pub opened : ℕ
  pub is_opened : OpenedAt past opened
  pub closing : FlagEndsAt bits (length bits)
  pub some : opened + 8 < length bits
