-- Octets of a content in which no zero was inserted.
use Rattle.bit_stuffing.proofs.Names.{◌≡◌, ℕ, zero, suc, ◌+◌, ◌-◌, ◌*◌, ◌/◌, ◌%◌, ◌^◌, ◌<◌, ◌≤◌, Bool, true, false, ◌&&◌, if◌then◌else◌}
use Rattle.bit_stuffing.proofs.Names.{nat_eq, List, [], ◌∷◌, ◌++◌, arith, append_assoc, refl, sym, ◌∙◌, ap}
use Rattle.bit_stuffing.proofs.Names.{false≢true, eqb-true, and_parts, All-append, All-cons, All-nil, Gathering, KeepsBits, Gathers}
use Rattle.bit_stuffing.proofs.Names.{has_room, is_plain, stuffed, room_behind, removed, room_after, bits_of-snoc, low_bits, octet_bits}
use Rattle.bit_stuffing.proofs.Names.{bits_of}
use Rattle.bit_stuffing.specs.Deframer.{room_behind_octet, room_behind_four}
use Rattle.bit_stuffing.proofs.Latest.{below8}
use Rattle.frame_check.proofs.Generators.{each_below, at_each}

-- more bits behind others
removed-append : (room : ℕ) (xs ys : List Bool) → removed room (xs ++ ys) ≡ removed room xs ++ removed (room_after room xs) ys
removed-append room [] ys = refl
removed-append zero (x ∷ xs) ys = removed-append 5 xs ys
removed-append (suc room) (true ∷ xs) ys = ap (λ l. true ∷ l) (removed-append room xs ys)
removed-append (suc room) (false ∷ xs) ys = ap (λ l. false ∷ l) (removed-append 5 xs ys)

room-append : (room : ℕ) (xs ys : List Bool) → room_after room (xs ++ ys) ≡ room_after (room_after room xs) ys
room-append room [] ys = refl
room-append zero (x ∷ xs) ys = room-append 5 xs ys
room-append (suc room) (true ∷ xs) ys = room-append room xs ys
room-append (suc room) (false ∷ xs) ys = room-append 5 xs ys

abbrev same_bits : List Bool → List Bool → Bool
same_bits [] [] = true
same_bits (true ∷ xs) (true ∷ ys) = same_bits xs ys
same_bits (false ∷ xs) (false ∷ ys) = same_bits xs ys
same_bits _ _ = false

are_same : (xs ys : List Bool) → same_bits xs ys ≡ true → xs ≡ ys
are_same [] [] e = refl
are_same (true ∷ xs) (true ∷ ys) e = ap (λ l. true ∷ l) (are_same xs ys e)
are_same (false ∷ xs) (false ∷ ys) e = ap (λ l. false ∷ l) (are_same xs ys e)
are_same [] (y ∷ ys) e = absurd (false≢true e)
are_same (true ∷ xs) [] e = absurd (false≢true e)
are_same (false ∷ xs) [] e = absurd (false≢true e)
are_same (true ∷ xs) (false ∷ ys) e = absurd (false≢true e)
are_same (false ∷ xs) (true ∷ ys) e = absurd (false≢true e)

abbrev plain_test : ℕ → ℕ → Bool
plain_test room octet =
    if is_plain room octet then same_bits (removed room (octet_bits octet)) (octet_bits octet) && nat_eq
    (room_after room (octet_bits octet)) (room_behind_octet octet) else true

all_plain : each_below 6 (λ room. each_below 256 (plain_test room)) ≡ true
all_plain = refl

-- an octet in which no zero is due is written as it stands

abbrev written_test : ℕ → ℕ → Bool
written_test room octet =
    if is_plain room octet then same_bits (stuffed room (octet_bits octet)) (octet_bits octet) && nat_eq
    (room_behind room (octet_bits octet)) (room_behind_octet octet) else true

all_written : each_below 6 (λ room. each_below 256 (written_test room)) ≡ true
all_written = refl

pub plain-written : (room octet : ℕ) → room < 6 → octet < 256 → is_plain room octet ≡ true
    → (stuffed room (octet_bits octet) ≡ octet_bits octet) × (room_behind room (octet_bits octet) ≡ room_behind_octet octet)
plain-written room octet low small plain =
    let here : written_test room octet ≡ true = at_each 256 (written_test room)
    (at_each 6 (λ room. each_below 256 (written_test room)) all_written room low) octet small in
    let both : same_bits (stuffed room (octet_bits octet)) (octet_bits octet) && nat_eq (room_behind room (octet_bits octet))
    (room_behind_octet octet) ≡ true = rw plain at here in
    let parts = and_parts (same_bits (stuffed room (octet_bits octet)) (octet_bits octet))
    (nat_eq (room_behind room (octet_bits octet)) (room_behind_octet octet)) both in (
      are_same (stuffed room (octet_bits octet)) (octet_bits octet) parts.0,
      eqb-true (room_behind room (octet_bits octet)) (room_behind_octet octet) parts.1,
    )

-- an octet in which no zero is due is kept whole
plain-kept : (room octet : ℕ) → room < 6 → octet < 256 → is_plain room octet ≡ true
    → (removed room (octet_bits octet) ≡ octet_bits octet) × (room_after room (octet_bits octet) ≡ room_behind_octet octet)
plain-kept room octet low small plain =
    let here : plain_test room octet ≡ true = at_each 256 (plain_test room)
    (at_each 6 (λ room. each_below 256 (plain_test room)) all_plain room low) octet small in
    let both : same_bits (removed room (octet_bits octet)) (octet_bits octet) && nat_eq (room_after room (octet_bits octet))
    (room_behind_octet octet) ≡ true = rw plain at here in
    let parts = and_parts (same_bits (removed room (octet_bits octet)) (octet_bits octet))
    (nat_eq (room_after room (octet_bits octet)) (room_behind_octet octet)) both in (
      are_same (removed room (octet_bits octet)) (octet_bits octet) parts.0,
      eqb-true (room_after room (octet_bits octet))
          (room_behind_octet octet) parts.1,
    )

-- the bits of a part and of a number above it
pub joined-bits : (held part k n : ℕ) → part < 2 ^ held → low_bits held part ++ low_bits k n ≡ low_bits (held + k) (part + n * 2 ^ held)
joined-bits zero part k n small = grind (arith)
joined-bits (suc held) part k n small =
    let double : 2 ^ suc held ≡ 2 * 2 ^ held = twice held in
    let product : n * 2 ^ suc held ≡ 2 * (n * 2 ^ held) = ap (λ m. n * m) double ∙ turned n (2 ^ held) in
    let low : (part + n * 2 ^ suc held) % 2 ≡ part % 2 = omega (arith, product) in
    let high : (part + n * 2 ^ suc held) / 2 ≡ part / 2 + n * 2 ^ held = omega (arith, product) in
    let rest = joined-bits held (part / 2) k n (omega (arith, double)) in
    let more : suc held + k ≡ suc (held + k) = omega arith in grind (arith)
  where
    twice : (k : ℕ) → 2 ^ suc k ≡ 2 * 2 ^ k
    twice k = omega arith

    turned : (a b : ℕ) → a * (2 * b) ≡ 2 * (a * b)
    turned a b = grind arith

-- eight bits are an octet's
pub first-octet : (k n : ℕ) → low_bits (8 + k) n ≡ octet_bits (n % 256) ++ low_bits k (n / 256)
first-octet k n =
    let e0 : n % 256 % 2 ≡ n % 2 = omega arith in
    let e1 : n % 256 / 2 % 2 ≡ n / 2 % 2 = omega arith in
    let e2 : n % 256 / 2 / 2 % 2 ≡ n / 2 / 2 % 2 = omega arith in
    let e3 : n % 256 / 2 / 2 / 2 % 2 ≡ n / 2 / 2 / 2 % 2 = omega arith in
    let e4 : n % 256 / 2 / 2 / 2 / 2 % 2 ≡ n / 2 / 2 / 2 / 2 % 2 = omega arith in
    let e5 : n % 256 / 2 / 2 / 2 / 2 / 2 % 2 ≡ n / 2 / 2 / 2 / 2 / 2 % 2 = omega arith in
    let e6 : n % 256 / 2 / 2 / 2 / 2 / 2 / 2 % 2 ≡ n / 2 / 2 / 2 / 2 / 2 / 2 % 2 = omega arith in
    let e7 : n % 256 / 2 / 2 / 2 / 2 / 2 / 2 / 2 % 2 ≡ n / 2 / 2 / 2 / 2 / 2 / 2 / 2 % 2 = omega arith in
    let e8 : n / 256 ≡ n / 2 / 2 / 2 / 2 / 2 / 2 / 2 / 2 = omega arith in
    let more : 8 + k ≡ suc (suc (suc (suc (suc (suc (suc (suc k))))))) = omega arith in grind (arith)

-- a whole octet more
keeps-eight : (octets : List ℕ) (part held octet all : ℕ) (kept : List Bool) → part < 2 ^ held → all ≡ part + octet * 2 ^ held
    → KeepsBits false octets part held kept
    → KeepsBits false (octets ++ all % 256 ∷ []) (all / 256) held (kept ++ octet_bits octet)
keeps-eight octets part held octet all kept small e h =
    let turned : held + 8 ≡ 8 + held = omega arith in
    let bits : low_bits held part ++ octet_bits octet ≡ octet_bits (all % 256) ++ low_bits held (all / 256) =
    joined-bits held part 8 octet small ∙ ap (low_bits (held + 8)) (sym e) ∙ ap (λ n. low_bits n all) turned ∙ first-octet held all in (
      ap (λ l. l ++ octet_bits octet) h.0 ∙ append_assoc (bits_of octets) (low_bits held part) (octet_bits octet)
          ∙ ap (λ l. bits_of octets ++ l) bits
          ∙ sym (append_assoc (bits_of octets) (octet_bits (all % 256)) (low_bits held (all / 256)))
          ∙ ap (λ l. l ++ low_bits held (all / 256)) (sym (bits_of-snoc octets (all % 256))),
      All-append (λ octet. octet < 256) octets (all % 256 ∷ []) h.1
          (All-cons (λ octet. octet < 256) (all % 256) [] (omega arith) (All-nil (λ octet. octet < 256))),
    )

pub gathers-octet : (g : Gathering) (octet all : ℕ) (line : List Bool) → g.room ≤ 5 → octet < 256 → g.part < 2 ^ g.held
    → is_plain g.room octet ≡ true → all ≡ g.part + octet * 2 ^ g.held → g.over ≡ false → Gathers g line
    → Gathers (record g { room = room_behind_octet octet; octets = g.octets ++ all % 256 ∷ []; part = all / 256 })
    (line ++ octet_bits octet)
gathers-octet g octet all line low small part plain e open_yet h = grind (arith, plain-kept, removed-append, room-append, keeps-eight)

-- one more of so many bits
spelled-more : (xs : List Bool) (place rest count bits : ℕ) → place < count → xs ++ low_bits (count - place) rest ≡ low_bits count bits
    → (xs ++ nat_eq (rest % 2) 1 ∷ []) ++ low_bits (count - (place + 1)) (rest / 2) ≡ low_bits count bits
spelled-more xs place rest count bits l e =
    let one : count - place ≡ suc (count - (place + 1)) = omega arith in grind (arith, append_assoc)

-- what a line and the bits so far are, once all were pushed
pub record HasPushed (g : Gathering) (line : List Bool) (place rest count bits : ℕ) : Type 0 where
  pub front : List Bool
  pub gathers : Gathers g (line ++ front)
  pub spelled : front ++ low_bits (count - place) rest ≡ low_bits count bits

pub pushed-more : (g h : Gathering) (line : List Bool) (place rest count bits : ℕ) → place < count
    → ((line : List Bool) → Gathers g line → Gathers h (line ++ nat_eq (rest % 2) 1 ∷ [])) → HasPushed g line place rest count bits
    → HasPushed h line (place + 1) (rest / 2) count bits
pushed-more g h line place rest count bits l push p = grind (arith, append_assoc, spelled-more)

-- the same for four bits

abbrev four_test : ℕ → ℕ → Bool
four_test room four =
    if has_room room four then same_bits (removed room (low_bits 4 four)) (low_bits 4 four) && nat_eq
    (room_after room (low_bits 4 four)) (room_behind_four four) else true

all_fours : each_below 6 (λ room. each_below 16 (four_test room)) ≡ true
all_fours = refl

-- four bits in which no zero is due are kept whole
four-kept : (room four : ℕ) → room < 6 → four < 16 → has_room room four ≡ true
    → (removed room (low_bits 4 four) ≡ low_bits 4 four) × (room_after room (low_bits 4 four) ≡ room_behind_four four)
four-kept room four low small plain =
    let here : four_test room four ≡ true = at_each 16 (four_test room)
    (at_each 6 (λ room. each_below 16 (four_test room)) all_fours room low) four small in
    let both : same_bits (removed room (low_bits 4 four)) (low_bits 4 four) && nat_eq (room_after room (low_bits 4 four))
    (room_behind_four four) ≡ true = rw plain at here in
    let parts = and_parts (same_bits (removed room (low_bits 4 four)) (low_bits 4 four))
    (nat_eq (room_after room (low_bits 4 four)) (room_behind_four four)) both in (
      are_same (removed room (low_bits 4 four)) (low_bits 4 four) parts.0,
      eqb-true (room_after room (low_bits 4 four)) (room_behind_four four) parts.1,
    )

-- four bits more, which make an octet or don't
keeps-low : (octets : List ℕ) (part held four all : ℕ) (kept : List Bool) → part < 2 ^ held → all ≡ part + four * 2 ^ held
    → KeepsBits false octets part held kept → kept ++ low_bits 4 four ≡ bits_of octets ++ low_bits (held + 4) all
keeps-low octets part held four all kept small e h =
    ap (λ l. l ++ low_bits 4 four) h.0 ∙ append_assoc (bits_of octets) (low_bits held part) (low_bits 4 four)
    ∙ ap (λ l. bits_of octets ++ l) (joined-bits held part 4 four small ∙ ap (low_bits (held + 4)) (sym e))

keeps-high : (octets : List ℕ) (part held four all : ℕ) (kept : List Bool) → part < 2 ^ held → all ≡ part + four * 2 ^ held → 4 ≤ held
    → KeepsBits false octets part held kept
    → KeepsBits false (octets ++ all % 256 ∷ []) (all / 256) (held - 4) (kept ++ low_bits 4 four)
keeps-high octets part held four all kept small e many h =
    let up : held + 4 ≡ 8 + (held - 4) = omega arith in (
      keeps-low octets part held four all kept small e h
          ∙ ap (λ l. bits_of octets ++ l) (ap (λ n. low_bits n all) up ∙ first-octet (held - 4) all)
          ∙ sym (append_assoc (bits_of octets) (octet_bits (all % 256)) (low_bits (held - 4) (all / 256)))
          ∙ ap (λ l. l ++ low_bits (held - 4) (all / 256)) (sym (bits_of-snoc octets (all % 256))),
      All-append (λ octet. octet < 256) octets (all % 256 ∷ []) h.1
          (All-cons (λ octet. octet < 256) (all % 256) [] (omega arith) (All-nil (λ octet. octet < 256))),
    )

-- what is gathered, once the bits without inserted ones are kept
gathers-four : (g : Gathering) (four : ℕ) (next : Gathering) (line : List Bool) → g.room ≤ 5 → four < 16 → has_room g.room four ≡ true
    → g.over ≡ false → next.over ≡ g.over → next.room ≡ room_behind_four four → Gathers g line
    → (KeepsBits false g.octets g.part g.held (removed 5 line)
    → KeepsBits false next.octets next.part next.held (removed 5 line ++ low_bits 4 four))
    → Gathers next (line ++ low_bits 4 four)
gathers-four g four next line low small plain open_yet same room h more = grind (arith, four-kept, removed-append, room-append)

pub gathers-low : (g : Gathering) (four all : ℕ) (line : List Bool) → g.room ≤ 5 → four < 16 → g.part < 2 ^ g.held
    → has_room g.room four ≡ true → all ≡ g.part + four * 2 ^ g.held → all < 256 → g.over ≡ false → Gathers g line
    → Gathers (record g { room = room_behind_four four; part = all % 256; held = g.held + 4 }) (line ++ low_bits 4 four)
gathers-low g four all line low small part plain e one open_yet h =
    gathers-four g four (record g { room = room_behind_four four; part = all % 256; held = g.held + 4 }) line low small plain open_yet refl
    refl h (λ k.
    let same : all ≡ all % 256 = omega arith in
    (keeps-low g.octets g.part g.held four all (removed 5 line) part e k ∙ ap (λ n. bits_of g.octets ++ low_bits (g.held + 4) n) same, k.1))

pub gathers-high : (g : Gathering) (four all : ℕ) (line : List Bool) → g.room ≤ 5 → four < 16 → g.part < 2 ^ g.held
    → has_room g.room four ≡ true → all ≡ g.part + four * 2 ^ g.held → 4 ≤ g.held → g.over ≡ false → Gathers g line
    → Gathers (record g { room = room_behind_four four; octets = g.octets ++ all % 256 ∷ []; part = all / 256; held = g.held - 4 })
    (line ++ low_bits 4 four)
gathers-high g four all line low small part plain e many open_yet h =
    gathers-four g four
    (record g { room = room_behind_four four; octets = g.octets ++ all % 256 ∷ []; part = all / 256; held = g.held - 4 }) line low small
    plain open_yet refl refl h (keeps-high g.octets g.part g.held four all (removed 5 line) part e many)

-- four bits above a part
pub four-bound : (part held four : ℕ) → held < 8 → part < 2 ^ held → four < 16
    → (held < 4 → (part + four * 2 ^ held) % 256 < 2 ^ (held + 4)) × (held < 4 → part + four * 2 ^ held < 256)
    × (4 ≤ held → (part + four * 2 ^ held) / 256 < 2 ^ (held - 4))
four-bound part held four low small fits = below8 (λ k. part < 2 ^ k
    → (k < 4 → (part + four * 2 ^ k) % 256 < 2 ^ (k + 4)) × (k < 4 → part + four * 2 ^ k < 256)
    × (4 ≤ k → (part + four * 2 ^ k) / 256 < 2 ^ (k - 4)))
    (λ s. (λ l. omega arith, λ l. omega arith, λ l. absurd (omega arith)))
    (λ s. (λ l. omega arith, λ l. omega arith, λ l. absurd (omega arith)))
    (λ s. (λ l. omega arith, λ l. omega arith, λ l. absurd (omega arith)))
    (λ s. (λ l. omega arith, λ l. omega arith, λ l. absurd (omega arith)))
    (λ s. (λ l. absurd (omega arith), λ l. absurd (omega arith), λ l. omega arith))
    (λ s. (λ l. absurd (omega arith), λ l. absurd (omega arith), λ l. omega arith))
    (λ s. (λ l. absurd (omega arith), λ l. absurd (omega arith), λ l. omega arith))
    (λ s. (λ l. absurd (omega arith), λ l. absurd (omega arith), λ l. omega arith))
    held low small
