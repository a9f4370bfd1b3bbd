-- What is found in a stream of which the first bits aren't heard.
use Rattle.std.specs.Prelude.{◌≡◌, ℕ, ◌+◌, ◌≤◌, Bool, List, ◌++◌, All, length, map}
use Rattle.bit_stuffing.specs.Flags.{FlagEndsAt}
use Rattle.bit_stuffing.specs.Found.{Found, pieces_of}

-- the same piece, where so many bits more stand before it
abbrev pub behind : ℕ → Found → Found
behind count found = record { place = count + found.place; piece = found.piece; octets = found.octets }

-- Of the pieces of all bits these are missed where the first bits aren't heard: none ends behind a flag that is heard whole. All others are
-- found, and nothing else is.
pub record Misses (first rest : List Bool) (missed : List Found) : Type 0 where
  pub all : pieces_of (first ++ rest) ≡ missed ++ map (behind (length first)) (pieces_of rest)
  pub early : (n : ℕ) → FlagEndsAt rest n → All (λ found. found.place ≤ length first + n) missed

-- the pieces of a stream's last bits are the last of its pieces
abbrev pub LastPiecesAreFound : Type 0
LastPiecesAreFound = (first rest : List Bool) → (missed : List Found) × Misses first rest missed
