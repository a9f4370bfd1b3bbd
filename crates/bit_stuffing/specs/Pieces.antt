-- The answer at each bit of a stream, by the places of the flags in all bits so far.
use Rattle.std.specs.Prelude.{◌≡◌, ◌⊎◌, ℕ, ◌-◌, ◌*◌, ◌<◌, ◌≤◌, Bool, List, [], ◌∷◌, ◌++◌, length, take, drop, Option, Some, None}
use Rattle.frame_check.specs.declared.sizes.TheConstants.{WHOLE}
use Rattle.frame_check.specs.Bits.{bits_of}
use Rattle.bit_stuffing.specs.declared.piece.Piece.{Piece}
use Rattle.bit_stuffing.specs.declared.piece.Piece.TheVariants.{Whole, Ragged, Aborted, TooLong, TooShort}
use Rattle.bit_stuffing.specs.declared.piece.TheConstants.{SHORTEST}
use Rattle.bit_stuffing.specs.Flags.{Aborts, Closes}
use Rattle.bit_stuffing.specs.Stuffing.{Stuffs, removed}
use Rattle.frame_check.specs.Octets.{AreOctets}

-- what stands between the flag that ends at place p and the flag that the last eight bits are
abbrev pub content : List Bool → ℕ → List Bool
content bits p = drop p (take (length bits - 8) bits)

-- the bits carry these octets
pub record Carries (bits : List Bool) (octets : List ℕ) : Type 0 where
  pub small : AreOctets octets
  pub stuffs : Stuffs (bits_of octets) bits

-- the bits carry whole octets, as many as a frame may have
pub record IsWhole (bits : List Bool) (octets : List ℕ) : Type 0 where
  pub carries : Carries bits octets
  pub low : SHORTEST ≤ length octets
  pub high : length octets ≤ WHOLE

-- What the bits between two flags are. The first of these that applies counts.
abbrev pub Judged : List Bool → Piece → Type 0
Judged bits TooLong = 8 * WHOLE < length (removed 5 bits)
Judged bits Ragged = (length (removed 5 bits) ≤ 8 * WHOLE) × ((octets : List ℕ) → Carries bits octets → ⊥)
Judged bits TooShort = (octets : List ℕ) × Carries bits octets × (length octets < SHORTEST)
Judged bits Whole = (octets : List ℕ) × IsWhole bits octets
Judged bits Aborted = ⊥

-- what is answered at the last of the bits past ++ bit
abbrev pub IsAnswer : List Bool → Bool → Option Piece → Type 0
IsAnswer past bit None = (Aborts past (past ++ bit ∷ []) → ⊥) × (Closes past (past ++ bit ∷ []) → ⊥)
IsAnswer past bit (Some Aborted) = Aborts past (past ++ bit ∷ [])
IsAnswer past bit (Some piece) = (closes : Closes past (past ++ bit ∷ [])) × Judged (content (past ++ bit ∷ []) closes.opened) piece

-- the last of the bits closes a whole piece of these octets
pub record EndsWhole (bits : List Bool) (octets : List ℕ) : Type 0 where
  pub past : List Bool
  pub last : Bool
  pub splits : bits ≡ past ++ last ∷ []
  pub closes : Closes past bits
  pub whole : IsWhole (content bits closes.opened) octets

-- the octets of the whole piece that the last bit closes, or none where it closes none
abbrev pub IsLent : List Bool → List ℕ → Type 0
IsLent bits octets = EndsWhole bits octets ⊎ ((octets ≡ []) × ((other : List ℕ) → EndsWhole bits other → ⊥))
