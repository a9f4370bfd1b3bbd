-- A content, gathered bit by bit, and what it is.
use Rattle.bit_stuffing.proofs.Names.{◌≡◌, ◌≢◌, ℕ, ◌+◌, ◌-◌, ◌*◌, ◌<◌, ◌≤◌, Bool, true, false, List, [], ◌∷◌, ◌++◌, length}
use Rattle.bit_stuffing.proofs.Names.{arith, length-append, sym, ◌∙◌, ap, subst, append-nil, Gathering, KeepsBits}
use Rattle.bit_stuffing.proofs.Names.{Gathers, Carries, IsWhole, Judged, removed, Fits, Piece, Whole, Ragged}
use Rattle.bit_stuffing.proofs.Names.{TooShort, length-low_bits, length-bits_of, WHOLE}
use Rattle.std.proofs.Common.{cond}
use Rattle.bit_stuffing.specs.declared.piece.TheConstants.{SHORTEST}
use Rattle.bit_stuffing.proofs.Stuffed.{next_room, kept_bit, room-snoc, removed-snoc, is_removed, stuffs-room, fits-stuffs}

-- the bit behind five ones is dropped
pub gathers-skip : (g h : Gathering) (bits : List Bool) (b : Bool) → Gathers g bits → g.room ≡ 0 → h ≡ record g { room = 5 }
    → Gathers h (bits ++ b ∷ [])
gathers-skip g h bits b k e same = grind (arith, room-snoc, removed-snoc, append-nil)

one_less : (n : ℕ) (b : Bool) → (n ≡ 0 → ⊥) → (kept_bit n b ≡ b ∷ []) × (next_room n true ≡ n - 1) × (next_room n false ≡ 5)
one_less n b h = grind (arith)

-- any other bit is kept
pub gathers-take : (g h : Gathering) (bits : List Bool) (b : Bool) → Gathers g bits → (g.room ≡ 0 → ⊥) → (h.room ≡ cond b (g.room - 1) 5)
    → (KeepsBits g.over g.octets g.part g.held (removed 5 bits) → KeepsBits h.over h.octets h.part h.held (removed 5 bits ++ b ∷ []))
    → Gathers h (bits ++ b ∷ [])
gathers-take g h bits b k e room more = grind (arith, one_less, removed-snoc, room-snoc)

-- a bit is kept
pub keeps-over : (octets : List ℕ) (part held : ℕ) (kept : List Bool) (b : Bool) → length octets ≡ WHOLE
    → KeepsBits false octets part held kept → 8 * WHOLE < length (kept ++ b ∷ [])
keeps-over octets part held kept b full h = grind (arith, length-append, length-bits_of)

-- how many bits octets take
pub carried-length : (bits : List Bool) (octets : List ℕ) → Carries bits octets → length (removed 5 bits) ≡ 8 * length octets
carried-length bits octets h = sym (ap length (is_removed h.stuffs)) ∙ length-bits_of octets

keeps-false : (g : Gathering) (bits : List Bool) → Gathers g bits → g.over ≡ false → KeepsBits false g.octets g.part g.held (removed 5 bits)
keeps-false g bits h e = subst (λ o. KeepsBits o g.octets g.part g.held (removed 5 bits)) e h.keeps

keeps-length : (g : Gathering) (bits : List Bool) → Gathers g bits → g.over ≡ false → length (removed 5 bits) ≡ 8 * length g.octets + g.held
keeps-length g bits h e = grind (arith, keeps-false, length-append, length-bits_of, length-low_bits)

pub judge-held : (g : Gathering) (bits : List Bool) → Gathers g bits → g.over ≡ false → g.held ≢ 0 → g.held < 8
    → 8 * length g.octets + g.held ≤ 8 * WHOLE → Judged bits Ragged
judge-held g bits h e some few fits = grind (arith, keeps-length, carried-length)

pub judge-ones : (g : Gathering) (bits : List Bool) → Gathers g bits → g.over ≡ false → g.room ≡ 0
    → 8 * length g.octets + g.held ≤ 8 * WHOLE → Judged bits Ragged
judge-ones g bits h e none fits = (omega (arith, keeps-length g bits h e), λ octets c. stuffs-room c.stuffs (sym h.room_is ∙ none))

pub gathers-carries : (g : Gathering) (bits : List Bool) → Fits 5 bits → Gathers g bits → g.over ≡ false → g.held ≡ 0 → g.room ≢ 0
    → Carries bits g.octets
gathers-carries g bits f h e none room = grind (arith, keeps-false, append-nil, fits-stuffs)

pub judge-short : (g : Gathering) (bits : List Bool) → Fits 5 bits → Gathers g bits → g.over ≡ false → g.held ≡ 0 → g.room ≢ 0
    → length g.octets < SHORTEST → Judged bits TooShort
judge-short g bits f h e none room short = (g.octets, gathers-carries g bits f h e none room, short)

pub judge-whole : (g : Gathering) (bits : List Bool) → Fits 5 bits → Gathers g bits → g.over ≡ false → g.held ≡ 0 → g.room ≢ 0
    → SHORTEST ≤ length g.octets → 8 * length g.octets + g.held ≤ 8 * WHOLE → IsWhole bits g.octets
judge-whole g bits f h e none room low fits = record { carries = gathers-carries g bits f h e none room; low = low; high = omega arith }

-- a piece that is judged something else isn't whole
pub not_whole : (bits : List Bool) (piece : Piece) (octets : List ℕ) → Judged bits piece → piece ≢ Whole → IsWhole bits octets → ⊥
not_whole bits piece octets j n w = grind (arith, carried-length)
