-- Stuffing, which keeps a content free of flags: behind five ones in a row the line has a zero of its own.
use Rattle.std.specs.Prelude.{◌≡◌, ℕ, zero, suc, ◌<◌, Bool, true, false, List, [], ◌∷◌}

-- The line's bits carry the content, where so many ones in a row were just written. Behind five of them stands a zero, also at
-- the end, and the count is 0 again. Else the next bit of the content stands in the line: the count rises for a one and becomes 0 for a zero.
pub data StuffsFrom : ℕ → List Bool → List Bool → Type 0 where
  End : {ones : ℕ} → ones < 5 → StuffsFrom ones [] []
  Inserted : {content line : List Bool} → StuffsFrom 0 content line → StuffsFrom 5 content (false ∷ line)
  One : {ones : ℕ} {content line : List Bool} → ones < 5 → StuffsFrom (suc ones) content line
      → StuffsFrom ones (true ∷ content) (true ∷ line)
  Zero : {ones : ℕ} {content line : List Bool} → ones < 5 → StuffsFrom 0 content line → StuffsFrom ones (false ∷ content) (false ∷ line)

-- the line's bits carry the content
abbrev pub Stuffs : List Bool → List Bool → Type 0
Stuffs content line = StuffsFrom 0 content line

-- the one stuffing of a content; room is how many ones may still follow before a zero has to
abbrev pub stuffed : ℕ → List Bool → List Bool
stuffed zero [] = false ∷ []
stuffed zero (true ∷ content) = false ∷ true ∷ stuffed 4 content
stuffed zero (false ∷ content) = false ∷ false ∷ stuffed 5 content
stuffed (suc room) [] = []
stuffed (suc room) (true ∷ content) = true ∷ stuffed room content
stuffed (suc room) (false ∷ content) = false ∷ stuffed 5 content

-- how many ones may still follow the stuffing of a content
abbrev pub room_behind : ℕ → List Bool → ℕ
room_behind zero [] = 5
room_behind zero (true ∷ content) = room_behind 4 content
room_behind zero (false ∷ content) = room_behind 5 content
room_behind (suc room) [] = suc room
room_behind (suc room) (true ∷ content) = room_behind room content
room_behind (suc room) (false ∷ content) = room_behind 5 content

-- a line's bits without the one behind each five ones
abbrev pub removed : ℕ → List Bool → List Bool
removed room [] = []
removed zero (bit ∷ line) = removed 5 line
removed (suc room) (true ∷ line) = true ∷ removed room line
removed (suc room) (false ∷ line) = false ∷ removed 5 line

-- how many ones may still follow a line's bits before a zero has to
abbrev pub room_after : ℕ → List Bool → ℕ
room_after room [] = room
room_after zero (bit ∷ line) = room_after 5 line
room_after (suc room) (true ∷ line) = room_after room line
room_after (suc room) (false ∷ line) = room_after 5 line

-- behind each five ones of a line stands a zero, if anything does
abbrev pub Fits : ℕ → List Bool → Type 0
Fits room [] = Unit {0}
Fits zero (bit ∷ line) = (bit ≡ false) × Fits 5 line
Fits (suc room) (true ∷ line) = Fits room line
Fits (suc room) (false ∷ line) = Fits 5 line
