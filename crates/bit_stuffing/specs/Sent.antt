-- What is found in the bits of slots.
use Rattle.std.specs.Prelude.{◌≡◌, ◌⊎◌, ℕ, ◌+◌, ◌<◌, ◌≤◌, Bool, true, false, List, [], ◌∷◌, ◌++◌, All, length, Some, None}
use Rattle.bit_stuffing.specs.declared.piece.Piece.{Piece}
use Rattle.bit_stuffing.specs.declared.piece.Piece.TheVariants.{Whole, Aborted}
use Rattle.bit_stuffing.specs.Found.{Found, pieces_of}
use Rattle.bit_stuffing.specs.Slots.{Slot, opening, sent_bits, phase_after, flags_behind}
use Rattle.bit_stuffing.specs.Slots.Slot.{Plain, Flags}

-- what more bits add to the pieces of those before: pieces that end among them
pub record Added (bits more : List Bool) (added : List Found) : Type 0 where
  pub all : pieces_of (bits ++ more) ≡ pieces_of bits ++ added
  pub places : All (λ found. (length bits < found.place) × (found.place ≤ length (bits ++ more))) added

-- a whole piece that ends at this place
abbrev pub whole_at : ℕ → List ℕ → Found
whole_at place octets = record { place = place; piece = Whole; octets = octets }

-- an abort at this place
abbrev pub aborted_at : ℕ → Found
aborted_at place = record { place = place; piece = Aborted; octets = [] }

-- What is found in a slot, before whose first bit so many stand: in a flag slot its frame, whole, at the closing flag; in given bits
-- nothing, but for one abort where flags came right before them.
abbrev pub FoundIn : ℕ → ℕ → ℕ → Bool → Slot → List Found → Type 0
FoundIn size start phase behind (Flags None) found = found ≡ []
FoundIn size start phase behind (Flags (Some octets)) found = found ≡ whole_at (start + length (opening phase (Some octets))) octets ∷ []
FoundIn size start phase false (Plain bits) found = found ≡ []
FoundIn size start phase true (Plain bits) found = (place : ℕ) × (start < place) × (place ≤ start + size) × (found ≡ aborted_at place ∷ [])

-- what one more slot adds to the pieces of those before
pub record SlotAdds (size : ℕ) (before : List Slot) (slot : Slot) (added : List Found) : Type 0 where
  pub all : pieces_of (sent_bits size (before ++ slot ∷ [])) ≡ pieces_of (sent_bits size before) ++ added
  pub found : FoundIn size (length (sent_bits size before)) (phase_after size before) (flags_behind false before) slot added

-- the octets, if the piece is whole
abbrev pub octets_if_whole : Piece → List ℕ → List (List ℕ)
octets_if_whole Whole octets = octets ∷ []
octets_if_whole _ octets = []

-- the octets of the whole pieces, in order
abbrev pub wholes : List Found → List (List ℕ)
wholes [] = []
wholes (found ∷ others) = octets_if_whole found.piece found.octets ++ wholes others

-- no other pieces are among these
abbrev pub AreWholeOrAborted : List Found → Type 0
AreWholeOrAborted pieces = All (λ found. (found.piece ≡ Whole) ⊎ (found.piece ≡ Aborted)) pieces
