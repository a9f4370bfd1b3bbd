-- The bits that are written into a slot.
use Rattle.bit_stuffing.proofs.Names.{◌≡◌, ℕ, zero, suc, ◌+◌, ◌-◌, ◌*◌, ◌/◌, ◌%◌, ◌^◌, ◌<◌, ◌≤◌, Bool, true, false, nat_eq, List, [], ◌∷◌}
use Rattle.bit_stuffing.proofs.Names.{◌++◌, length, take, drop, get_or, bit_and, arith, length-append, length-drop, refl, sym, ◌∙◌, ap}
use Rattle.bit_stuffing.proofs.Names.{append_assoc, append-nil, take_more, get_or-drop, line_bits, flag, written, stuffed, room_behind, Pen}
use Rattle.bit_stuffing.proofs.Names.{length-low_bits, bits_of-snoc, bits_of-append, low_bits, octet_bits, bits_of}
use Rattle.std.proofs.lemmas.Grind.{flat_map-append}
use Rattle.std.proofs.lemmas.List.{take-append-drop}
use Rattle.std.proofs.lemmas.Nat.{and_mask}
use Rattle.frame_check.proofs.BitLists.{get_or-low_bits}
use Rattle.bit_stuffing.proofs.Stuffed.{zero_first}
use Rattle.bit_stuffing.proofs.Octets.{joined-bits, first-octet}

pub length-line_bits : (quads : List ℕ) → length (line_bits quads) ≡ 4 * length quads
length-line_bits [] = refl
length-line_bits (quad ∷ quads) =
    omega (arith, length-append {A = Bool} (low_bits 4 quad) (line_bits quads), length-line_bits quads, length-low_bits 4 quad)

pub length-written : (pen : Pen) (quads : List ℕ) → length (written pen quads) ≡ 4 * length quads + pen.held
length-written pen quads = grind (arith, length-append, length-line_bits, length-low_bits)

-- An octet's bits make two quads, and what is held stays as long.

two-quads : (n : ℕ) → octet_bits (n % 256) ≡ low_bits 4 (n % 16) ++ low_bits 4 (n / 16 % 16)
two-quads n =
    let e0 : n % 256 % 2 ≡ n % 16 % 2 = omega arith in
    let e1 : n % 256 / 2 % 2 ≡ n % 16 / 2 % 2 = omega arith in
    let e2 : n % 256 / 2 / 2 % 2 ≡ n % 16 / 2 / 2 % 2 = omega arith in
    let e3 : n % 256 / 2 / 2 / 2 % 2 ≡ n % 16 / 2 / 2 / 2 % 2 = omega arith in
    let e4 : n % 256 / 2 / 2 / 2 / 2 % 2 ≡ n / 16 % 16 % 2 = omega arith in
    let e5 : n % 256 / 2 / 2 / 2 / 2 / 2 % 2 ≡ n / 16 % 16 / 2 % 2 = omega arith in
    let e6 : n % 256 / 2 / 2 / 2 / 2 / 2 / 2 % 2 ≡ n / 16 % 16 / 2 / 2 % 2 = omega arith in
    let e7 : n % 256 / 2 / 2 / 2 / 2 / 2 / 2 / 2 % 2 ≡ n / 16 % 16 / 2 / 2 / 2 % 2 = omega arith in grind (arith)

line-more : (quads : List ℕ) (quad : ℕ) → line_bits (quads ++ quad ∷ []) ≡ line_bits quads ++ low_bits 4 quad
line-more quads quad = flat_map-append (low_bits 4) quads (quad ∷ []) ∙ ap (λ l. line_bits quads ++ l) (append-nil (low_bits 4 quad))

pub octet-written : (quads : List ℕ) (held part octet all : ℕ) → part < 2 ^ held → all ≡ part + octet * 2 ^ held
    → line_bits ((quads ++ all % 16 ∷ []) ++ all / 16 % 16 ∷ []) ++ low_bits held (all / 256)
    ≡ (line_bits quads ++ low_bits held part) ++ octet_bits octet
octet-written quads held part octet all small e =
    let q = all % 16 in
    let r = all / 16 % 16 in
    let turned : held + 8 ≡ 8 + held = omega arith in
    let bits : low_bits held part ++ octet_bits octet ≡ (low_bits 4 q ++ low_bits 4 r) ++ low_bits held (all / 256) =
    joined-bits held part 8 octet small ∙ ap (low_bits (held + 8)) (sym e) ∙ ap (λ n. low_bits n all) turned ∙ first-octet held all
    ∙ ap (λ l. l ++ low_bits held (all / 256)) (two-quads all) in
    let quads_are : line_bits ((quads ++ q ∷ []) ++ r ∷ []) ≡ line_bits quads ++ (low_bits 4 q ++ low_bits 4 r)
    = grind (arith, line-more, append_assoc) in
    ap (λ l. l ++ low_bits held (all / 256)) quads_are
    ∙ append_assoc (line_bits quads) (low_bits 4 q ++ low_bits 4 r) (low_bits held (all / 256))
    ∙ ap (λ l. line_bits quads ++ l) (sym bits) ∙ sym (append_assoc (line_bits quads) (low_bits held part) (octet_bits octet))

-- the stuffing of one content behind another

-- a zero that has to stand does so at once, unless nothing else follows
stuffed-zero : (content more : List Bool) → stuffed 0 (content ++ more) ≡ false ∷ stuffed 5 (content ++ more)
stuffed-zero content more = zero_first (content ++ more)

pub stuffed-append : (room : ℕ) (content more : List Bool) → 0 < room
    → stuffed room (content ++ more) ≡ stuffed room content ++ stuffed (room_behind room content) more
stuffed-append zero content more h = absurd (omega arith)
stuffed-append (suc room) [] more h = refl
stuffed-append (suc zero) (true ∷ content) more h =
    ap (λ t. true ∷ t) (stuffed-zero content more ∙ ap (λ t. false ∷ t) (stuffed-append 5 content more (omega arith)) ∙ full content)
  where
    full : (content : List Bool)
        → false ∷ (stuffed 5 content ++ stuffed (room_behind 5 content) more) ≡ stuffed 0 content ++ stuffed (room_behind 0 content) more
    full content = grind (arith)
stuffed-append (suc (suc room)) (true ∷ content) more h = ap (λ t. true ∷ t) (stuffed-append (suc room) content more (omega arith))
stuffed-append (suc room) (false ∷ content) more h = ap (λ t. false ∷ t) (stuffed-append 5 content more (omega arith))

-- and how many ones may follow
pub room_behind-append : (room : ℕ) (content more : List Bool) → 0 < room
    → room_behind room (content ++ more) ≡ room_behind (room_behind room content) more
room_behind-append zero content more h = absurd (omega arith)
room_behind-append (suc room) [] more h = refl
room_behind-append (suc zero) (true ∷ content) more h =
    full content ∙ room_behind-append 5 content more (omega arith) ∙ ap (λ r. room_behind r more) (sym (behind content))
  where
    behind : (content : List Bool) → room_behind 0 content ≡ room_behind 5 content
    behind content = grind (arith)

    full : (content : List Bool) → room_behind 0 (content ++ more) ≡ room_behind 5 (content ++ more)
    full content = behind (content ++ more)
room_behind-append (suc (suc room)) (true ∷ content) more h = room_behind-append (suc room) content more (omega arith)
room_behind-append (suc room) (false ∷ content) more h = room_behind-append 5 content more (omega arith)

pub room_behind-in : (room : ℕ) (content : List Bool) → room ≤ 5 → (0 < room_behind room content) × (room_behind room content ≤ 5)
room_behind-in zero [] h = (omega arith, omega arith)
room_behind-in zero (true ∷ content) h = room_behind-in 4 content (omega arith)
room_behind-in zero (false ∷ content) h = room_behind-in 5 content (omega arith)
room_behind-in (suc room) [] h = (omega arith, h)
room_behind-in (suc room) (true ∷ content) h = room_behind-in room content (omega arith)
room_behind-in (suc room) (false ∷ content) h = room_behind-in 5 content (omega arith)

-- of a content's front no more is written than of the whole
pub stuffed-front : (room : ℕ) (content more : List Bool) → 0 < room
    → length (stuffed room content) ≤ length (stuffed room (content ++ more))
stuffed-front room content more h = grind (arith, stuffed-append, length-append)

-- A content is written a part at a time: front is what was written, and left how many ones may follow it.
module _ (start now front : List Bool) (room left : ℕ) (some : 0 < room) (left_is : left ≡ room_behind room front)
    (now_is : now ≡ start ++ stuffed room front) where
  pub next-written : (next part : List Bool) → next ≡ now ++ stuffed left part → next ≡ start ++ stuffed room (front ++ part)
  next-written next part e = grind (arith, append_assoc, stuffed-append)

  pub next-left : (part : List Bool) → room_behind left part ≡ room_behind room (front ++ part)
  next-left part = ap (λ r. room_behind r part) left_is ∙ sym (room_behind-append room front part some)

  pub next-fits : (part rest : List Bool) (limit : ℕ) → length start + length (stuffed room ((front ++ part) ++ rest)) ≤ limit
      → length now + length (stuffed left part) ≤ limit
  next-fits part rest limit h =
      let all : now ++ stuffed left part ≡ start ++ stuffed room (front ++ part) = next-written (now ++ stuffed left part) part refl in
      omega (
        arith,
        ap length all,
        length-append {A = Bool} now (stuffed left part),
        length-append {A = Bool} start (stuffed room (front ++ part)),
        stuffed-front room (front ++ part) rest some,
      )

  pub left-in : room ≤ 5 → (0 < left) × (left ≤ 5)
  left-in few = rw left_is (room_behind-in room front few)

-- the bits of an octet, one after another
pub octet-bit : (n i : ℕ) → i < 8 → nat_eq (bit_and (n / 2 ^ i) 1) 1 ≡ get_or (octet_bits n) i false
octet-bit n i h = ap (λ r. nat_eq r 1) (and_mask (n / 2 ^ i) 1) ∙ sym (get_or-low_bits 8 n i false h)

pub octet-part : (n i : ℕ) (b : Bool) → i < 8 → b ≡ get_or (octet_bits n) i false
    → take (i + 1) (octet_bits n) ≡ take i (octet_bits n) ++ b ∷ []
octet-part n i b h e = rw e (take_more (octet_bits n) i false (omega (arith, length-low_bits 8 n)))

pub octet-split : (n i : ℕ) (b : Bool) → i < 8 → b ≡ get_or (octet_bits n) i false
    → (take i (octet_bits n) ++ b ∷ []) ++ drop (i + 1) (octet_bits n) ≡ octet_bits n
octet-split n i b h e = ap (λ t. t ++ drop (i + 1) (octet_bits n)) (sym (octet-part n i b h e)) ∙ take-append-drop (i + 1) (octet_bits n)

-- octets, one after another
pub octets-part : (octets : List ℕ) (i : ℕ) → i < length octets
    → bits_of (take (i + 1) octets) ≡ bits_of (take i octets) ++ octet_bits (get_or octets i 0)
octets-part octets i h = ap bits_of (take_more octets i 0 h) ∙ bits_of-snoc (take i octets) (get_or octets i 0)

pub octets-split : (octets : List ℕ) (i : ℕ) → i < length octets
    → (bits_of (take i octets) ++ octet_bits (get_or octets i 0)) ++ bits_of (drop (i + 1) octets) ≡ bits_of octets
octets-split octets i h =
    ap (λ t. t ++ bits_of (drop (i + 1) octets)) (sym (octets-part octets i h))
    ∙ sym (bits_of-append (take (i + 1) octets) (drop (i + 1) octets)) ∙ ap bits_of (take-append-drop (i + 1) octets)

-- the bits of a flag, one after another
pub flag-part : (from place : ℕ) (b : Bool) → from ≤ place → place < 8 → b ≡ get_or flag place false
    → take (place + 1 - from) (drop from flag) ≡ take (place - from) (drop from flag) ++ b ∷ []
flag-part from place b low high e =
    let n : place + 1 - from ≡ place - from + 1 = omega arith in
    let at_place : from + (place - from) ≡ place = omega arith in
    let bit : get_or (drop from flag) (place - from) false ≡ b = grind (arith, get_or-drop) in
    rw (n, sym bit) (take_more (drop from flag) (place - from) false (omega (arith, length-drop from flag)))
