-- The bits of a slot from a place on, and the first whole piece that ends among them.
use Rattle.line_tap.proofs.Cited.{◌≡◌, ◌∙◌, ℕ, ◌+◌, ◌-◌, ◌*◌, ◌/◌, ◌%◌, ◌<◌, ◌≤◌, Bool, false, List, [], ◌∷◌, ◌++◌, length, take, drop}
use Rattle.line_tap.proofs.Cited.{slice_index, Option, Some, None, All, refl, sym, ap, subst, arith, append_assoc, length-take-le}
use Rattle.line_tap.proofs.Cited.{take-append-drop, take_more, option_map, length-line_bits, line_bits, Kept, bit_of, Found, lent_of}
use Rattle.line_tap.proofs.Cited.{pieces_of, wholes, stuffed, low_bits, EndsFirst, part}
use Rattle.std.proofs.Common.{length-drop, length-take}
use Rattle.std.specs.Option.{option_map_or}
use Rattle.std.proofs.lemmas.Grind.{flat_map-append}
use Rattle.std.proofs.lemmas.List.{drop-append-le, drop_all, take_at}
use Rattle.frame_check.specs.Bits.{bits_of, octet_bits}
use Rattle.bit_stuffing.specs.declared.piece.Piece.TheVariants.{Whole}
use Rattle.bit_stuffing.specs.Found.{found_at, listed}
use Rattle.bit_stuffing.specs.Pieces.{content, EndsWhole}
use Rattle.bit_stuffing.proofs.Found.{pieces-more, found-place}
use Rattle.bit_stuffing.proofs.Sent.{pieces-stay, wholes-append}
use Rattle.bit_stuffing.proofs.Stuffed.{is_stuffed}
use Rattle.sample_line.proofs.Standing.{slot-part}
use Rattle.command_base.proofs.Hearing.{octet-fours as two-quads}

-- ---- bits more

length-part : (bits : List Bool) (from to : ℕ) → to ≤ length bits → length (part bits from to) ≡ to - from
length-part bits from to within = length-drop from (take to bits) ∙ ap (λ n. n - from) (length-take-le to bits within)

pub part-none : (bits : List Bool) (from : ℕ) → part bits from from ≡ []
part-none bits from = drop_all from (take from bits) (omega (arith, length-take from bits))

pub bit-more : (bits : List Bool) (from place : ℕ) → from ≤ place → place < length bits
    → part bits from place ++ bit_of bits place ∷ [] ≡ part bits from (place + 1)
bit-more bits from place low within =
    let long : length (take place bits) ≡ place = length-take-le place bits (omega (arith, within)) in
    sym (drop-append-le from (take place bits) (bit_of bits place ∷ []) (omega (arith, long, low)))
    ∙ ap (drop from) (sym (take_more bits place false within))

pub slot-bit-more : (quads : List ℕ) (from place : ℕ) (bit : Bool) → from ≤ place → place < 4 * length quads
    → bit ≡ bit_of (line_bits quads) place → part (line_bits quads) from place ++ bit ∷ [] ≡ part (line_bits quads) from (place + 1)
slot-bit-more quads from place bit low within e = grind (arith, bit-more, length-line_bits)

quads-front : (k : ℕ) (quads : List ℕ) → k ≤ length quads → take (4 * k) (line_bits quads) ≡ line_bits (take k quads)
quads-front k quads within =
    let all : line_bits quads ≡ line_bits (take k quads) ++ line_bits (drop k quads) =
    ap line_bits (sym (take-append-drop k quads)) ∙ flat_map-append (low_bits 4) (take k quads) (drop k quads) in
    let long : length (line_bits (take k quads)) ≡ 4 * k =
    length-line_bits (take k quads) ∙ ap (λ n. 4 * n) (length-take-le k quads within) in
    ap (take (4 * k)) all ∙ take_at (line_bits (take k quads)) (line_bits (drop k quads)) (4 * k) long

pub quad-more : (quads : List ℕ) (from place quad : ℕ) → from ≤ place → place % 4 ≡ 0 → place < 4 * length quads
    → quad ≡ slice_index quads (place / 4) → part (line_bits quads) from place ++ low_bits 4 quad ≡ part (line_bits quads) from (place + 4)
quad-more quads from place quad low even within e =
    let k : ℕ = place / 4 in
    let here : place ≡ 4 * k = omega (arith, even) in
    let next : 4 * (k + 1) ≡ place + 4 = omega (arith, here) in
    let inside : k < length quads = omega (arith, here, within) in
    let front : take place (line_bits quads) ≡ line_bits (take k quads) =
    ap (λ n. take n (line_bits quads)) here ∙ quads-front k quads (omega (arith, inside)) in
    let long : length (line_bits (take k quads)) ≡ 4 * k =
    length-line_bits (take k quads) ∙ ap (λ n. 4 * n) (length-take-le k quads (omega (arith, inside))) in
    ap (λ xs. drop from xs ++ low_bits 4 quad) front ∙ ap (λ q. drop from (line_bits (take k quads)) ++ low_bits 4 q) e
    ∙ sym (drop-append-le from (line_bits (take k quads)) (low_bits 4 (slice_index quads k)) (omega (arith, low, here, long)))
    ∙ ap (drop from) (slot-part quads k inside)
    ∙ ap (drop from) (sym (quads-front (k + 1) quads (omega (arith, inside))) ∙ ap (λ n. take n (line_bits quads)) next)

pub octet-more : (quads : List ℕ) (from place first second : ℕ) → from ≤ place → place % 4 ≡ 0 → place + 4 < 4 * length quads
    → first < 16 → first ≡ slice_index quads (place / 4) → second ≡ slice_index quads (place / 4 + 1)
    → part (line_bits quads) from place ++ octet_bits (first + 16 * second) ≡ part (line_bits quads) from (place + 8)
octet-more quads from place first second low even within few e f =
    let bits : List Bool = part (line_bits quads) from place in
    let a : (first + 16 * second) % 16 ≡ first = omega (arith, few) in
    let b : (first + 16 * second) / 16 ≡ second = omega (arith, few) in
    let octet : octet_bits (first + 16 * second) ≡ low_bits 4 first ++ low_bits 4 second =
    sym (two-quads (first + 16 * second)) ∙ ap (λ n. low_bits 4 n ++ low_bits 4 ((first + 16 * second) / 16)) a
    ∙ ap (λ n. low_bits 4 first ++ low_bits 4 n) b in
    let next : place / 4 + 1 ≡ (place + 4) / 4 = omega (arith, even) in
    let up : place + 4 + 4 ≡ place + 8 = omega arith in
    ap (λ xs. bits ++ xs) octet ∙ sym (append_assoc bits (low_bits 4 first) (low_bits 4 second))
    ∙ ap (λ xs. xs ++ low_bits 4 second) (quad-more quads from place first low even (omega (arith, within)) e)
    ∙ quad-more quads from (place + 4) second (omega (arith, low)) (omega (arith, even)) within (f ∙ ap (slice_index quads) next)
    ∙ ap (part (line_bits quads) from) up

-- ---- where nothing whole has ended yet

no-whole : (found : Option Found) → (option_map (λ (f : Found). f.piece) found ≡ Some Whole → ⊥) → wholes (listed found) ≡ []
no-whole found other = grind (arith)

pub none-more : (bits : List Bool) (from place : ℕ) → from ≤ place → place < length bits
    → (option_map (λ (f : Found). f.piece) (found_at (part bits from (place + 1))) ≡ Some Whole → ⊥)
    → wholes (pieces_of (part bits from place)) ≡ [] → wholes (pieces_of (part bits from (place + 1))) ≡ []
none-more bits from place low within other none =
    let more = bit-more bits from place low within in
    let bit : Bool = bit_of bits place in
    ap (λ xs. wholes (pieces_of xs)) (sym more) ∙ ap wholes (pieces-more (part bits from place) bit)
    ∙ wholes-append (pieces_of (part bits from place)) (listed (found_at (part bits from place ++ bit ∷ [])))
    ∙ ap (λ ws. ws ++ wholes (listed (found_at (part bits from place ++ bit ∷ [])))) none
    ∙ ap (λ xs. wholes (listed (found_at xs))) more ∙ no-whole (found_at (part bits from (place + 1))) other

-- ---- the one piece of a line is the first one

-- from there on one piece is found, whole, which ends there
pub record OnePiece (bits : List Bool) (from : ℕ) (octets : List ℕ) (end : ℕ) : Type 0 where
  pub found : Found
  pub all : pieces_of (drop from bits) ≡ found ∷ []
  pub piece : found.piece ≡ Whole
  pub octets_are : found.octets ≡ octets
  pub place : from + found.place ≡ end

not-none : (piece : Found) (others : List Found) → piece.piece ≡ Whole → wholes (piece ∷ others) ≡ [] → ⊥
not-none piece others e none = grind (arith)

pub one-whole : (bits : List Bool) (from : ℕ) (octets : List ℕ) (end : ℕ) → OnePiece bits from octets end
    → wholes (pieces_of (drop from bits)) ≡ [] → ⊥
one-whole bits from octets end one none = not-none one.found [] one.piece (ap wholes (sym one.all) ∙ none)

only-one : (before : List Found) (last : Option Found) (behind : List Found) (one : Found) (place : ℕ) → wholes before ≡ []
    → option_map (λ (f : Found). f.piece) last ≡ Some Whole → All (λ f. f.place ≡ place) (listed last) → one.piece ≡ Whole
    → before ++ (listed last ++ behind) ≡ one ∷ []
    → (option_map_or (λ (f : Found). f.octets) last [] ≡ one.octets) × (one.place ≡ place)
only-one [] None behind one place none is at whole e = absurd cc
only-one [] (Some last) behind one place none is at whole e =
    let same : last ≡ one = cc in
    let there : last.place ≡ place = at 0 one (omega arith) in
    (ap (λ (f : Found). f.octets) same, ap (λ (f : Found). f.place) (sym same) ∙ there)
only-one (first ∷ before) last behind one place none is at whole e = grind (arith)

pub first-is : (deframer : Kept) (bits : List Bool) (from end : ℕ) (octets : List ℕ) (place : ℕ) → EndsFirst deframer bits from end
    → OnePiece bits from octets place → (lent_of (part bits from end) ≡ octets) × (place ≡ end)
first-is deframer bits from end octets place h one =
    let before : List Bool = part bits from (end - 1) in
    let bit : Bool = bit_of bits (end - 1) in
    let later : from < end = h.later in
    let within : end ≤ length bits = h.within in
    let up : end - 1 + 1 ≡ end = omega (arith, later) in
    let last : before ++ bit ∷ [] ≡ part bits from end =
    bit-more bits from (end - 1) (omega (arith, later)) (omega (arith, later, within)) ∙ ap (part bits from) up in
    let added = pieces-stay (part bits from end) (drop end bits) in
    let whole : drop from bits ≡ part bits from end ++ drop end bits =
    ap (drop from) (sym (take-append-drop end bits))
    ∙ drop-append-le from (take end bits) (drop end bits) (omega (arith, length-take-le end bits within, later)) in
    let all : pieces_of before ++ (listed (found_at (part bits from end)) ++ added.0) ≡ one.found ∷ [] =
    sym (append_assoc (pieces_of before) (listed (found_at (part bits from end))) added.0)
    ∙ ap (λ xs. (pieces_of before ++ listed (found_at xs)) ++ added.0) (sym last)
    ∙ ap (λ ps. ps ++ added.0) (sym (pieces-more before bit) ∙ ap pieces_of last)
    ∙ sym added.1.all ∙ ap pieces_of (sym whole) ∙ one.all in
    let at : All (λ (f : Found). f.place ≡ length before + 1) (listed (found_at (part bits from end))) =
    subst (λ xs. All (λ (f : Found). f.place ≡ length before + 1) (listed (found_at xs))) last (found-place before bit) in
    let is =
    only-one (pieces_of before) (found_at (part bits from end)) added.0 one.found (length before + 1) h.first h.whole at one.piece all in
    let long : length before ≡ end - 1 - from = length-part bits from (end - 1) (omega (arith, within)) in
    (is.0 ∙ one.octets_are, sym one.place ∙ omega (arith, is.1, long, later))

-- ---- a whole piece stands behind a flag

pub piece-long : (bits : List Bool) (from end : ℕ) (octets : List ℕ) → from ≤ end → end ≤ length bits
    → EndsWhole (part bits from end) octets → length (stuffed 5 (bits_of octets)) + from + 16 ≤ end
piece-long bits from end octets low within h =
    let all : List Bool = part bits from end in
    let opened : ℕ = h.closes.opened in
    let is : content all opened ≡ stuffed 5 (bits_of octets) = is_stuffed 5 h.whole.carries.stuffs refl in
    let long : length all ≡ end - from = length-part bits from end within in
    let inside : length (content all opened) ≡ length all - 8 - opened =
    length-drop opened (take (length all - 8) all) ∙ ap (λ n. n - opened) (length-take-le (length all - 8) all (omega arith)) in
    omega (arith, ap length is, long, inside, h.closes.some, h.closes.is_opened.flag_ends.room, low)
