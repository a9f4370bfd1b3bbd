-- What is found in a slot of flags is what was sent in it.
use Rattle.line_tap.proofs.Cited.{◌≡◌, ◌∙◌, inl, inr, ℕ, zero, suc, ◌+◌, ◌-◌, ◌*◌, ◌%◌, ◌<◌, ◌≤◌, Bool, true, false, List, [], ◌∷◌, ◌++◌}
use Rattle.line_tap.proofs.Cited.{All, length, take, drop, map, slice_index, Option, Some, None, refl, sym, ap, subst, arith, append-nil}
use Rattle.line_tap.proofs.Cited.{length-append, drop-append_seam, false≢true, append_assoc, length-take-le, take-append-drop, IfSome}
use Rattle.line_tap.proofs.Cited.{pieces-none, line_bits, Kept, bit_of, Found, lent_of, pieces_of, wholes, rest_of_flag, opening, slot_bits}
use Rattle.line_tap.proofs.Cited.{stuffed, HEAD, TAIL, low_bits, Check, SpellsFrame, checked, address_of, Frame, CodableFits}
use Rattle.line_tap.proofs.Cited.{CodableIsSendable, SpelledInOctets, AreBitsOf, EndsFirst, FindsSent, IsAt, part, Seeker, IsCodable, Role}
use Rattle.std.proofs.lemmas.List.{drop-drop, get_or-append-add}
use Rattle.frame_check.specs.Bits.{bits_of}
use Rattle.bit_stuffing.specs.Flags.{flag, FlagEndsAt}
use Rattle.bit_stuffing.specs.Pieces.{IsLent}
use Rattle.bit_stuffing.specs.Slots.{Slot, flags, fill, framed, sent_bits, AreSlots, IsSlot}
use Rattle.bit_stuffing.specs.Slots.Slot.{Flags}
use Rattle.bit_stuffing.specs.Sent.{SlotAdds, whole_at}
use Rattle.bit_stuffing.specs.Tails.{LastPiecesAreFound, behind}
use Rattle.lapm_frames.proofs.Checking.{spells}
use Rattle.lapm_frames.specs.declared.sent.Sent.TheVariants as sent
use Rattle.line_tap.specs.Seeking.{end_of}
use Rattle.line_tap.proofs.Seeking.{OnePiece, one-whole, first-is, piece-long}

pub record FoundLaws : Type 0 where
  pub fits : CodableFits
  pub sendable : CodableIsSendable
  pub octets : SpelledInOctets
  pub found : (size : ℕ) (before : List Slot) (slot : Slot) → AreSlots size 0 (before ++ slot ∷ [])
      → (added : List Found) × SlotAdds size before slot added
  pub last : LastPiecesAreFound

-- ---- a frame begins with a one

odd-address : (command : Bool) (sender : Role) (dlci : ℕ) → address_of command sender dlci % 2 ≡ 1
odd-address command sender dlci = grind (arith)

record BeginsWithOne (bits : List Bool) : Type 0 where
  rest : List Bool
  is : bits ≡ true ∷ rest

one-first : (octet : ℕ) (octets : List ℕ) → octet % 2 ≡ 1 → BeginsWithOne (stuffed 5 (bits_of (octet ∷ octets)))
one-first octet octets e = grind (arith)

frame-first : (check : Check) (sender : Role) (dlci : ℕ) (frame : Frame)
    → BeginsWithOne (stuffed 5 (bits_of (checked check sender dlci frame)))
frame-first check sender dlci frame = grind (arith, one-first, odd-address)

pub frame-begins : (check : Check) (sender : Role) (dlci size phase : ℕ) (frame : Frame)
    → bit_of (slot_bits size phase (Flags (Some (checked check sender dlci frame)))) (length (rest_of_flag phase) + 32) ≡ true
frame-begins check sender dlci size phase frame =
    let octets : List ℕ = checked check sender dlci frame in
    let begins = frame-first check sender dlci frame in
    let front : List Bool = rest_of_flag phase ++ flags 4 in
    let behind : List Bool = fill (size - length (opening phase (Some octets))) in
    let all : slot_bits size phase (Flags (Some octets)) ≡ front ++ (true ∷ ((begins.rest ++ flag) ++ behind)) =
    append_assoc front (framed (Some octets)) behind ∙ ap (λ xs. front ++ ((xs ++ flag) ++ behind)) begins.is in
    let place : length (rest_of_flag phase) + 32 ≡ length front + 0 = omega (arith, length-append (rest_of_flag phase) (flags 4)) in
    ap (λ xs. bit_of xs (length (rest_of_flag phase) + 32)) all ∙ ap (bit_of (front ++ (true ∷ ((begins.rest ++ flag) ++ behind)))) place
    ∙ get_or-append-add front (true ∷ ((begins.rest ++ flag) ++ behind)) 0 false

-- and where no frame was sent the next flag begins with a zero
fill-first : (n : ℕ) → 1 ≤ n → bit_of (fill n) 0 ≡ false
fill-first n some = grind (arith)

rest-bits : (phase : ℕ) → phase < 8 → length (rest_of_flag phase) ≡ (8 - phase) - 8 * (1 - phase)
rest-bits zero h = refl
rest-bits (suc zero) h = refl
rest-bits (suc (suc zero)) h = refl
rest-bits (suc (suc (suc zero))) h = refl
rest-bits (suc (suc (suc (suc zero)))) h = refl
rest-bits (suc (suc (suc (suc (suc zero))))) h = refl
rest-bits (suc (suc (suc (suc (suc (suc zero)))))) h = refl
rest-bits (suc (suc (suc (suc (suc (suc (suc zero))))))) h = refl
rest-bits (suc (suc (suc (suc (suc (suc (suc (suc n)))))))) h = absurd (omega (arith, h))

pub flags-begin : (size phase : ℕ) → phase < 8 → 40 < size
    → bit_of (slot_bits size phase (Flags None)) (length (rest_of_flag phase) + 32) ≡ false
flags-begin size phase low long =
    let front : List Bool = rest_of_flag phase ++ flags 4 in
    let n : ℕ = size - length (opening phase None) in
    let whole : opening phase None ≡ front = append-nil front in
    let few : length (rest_of_flag phase) < 8 = rest-few phase low in
    let count : length front ≡ length (rest_of_flag phase) + 32 = length-append (rest_of_flag phase) (flags 4) in
    let place : length (rest_of_flag phase) + 32 ≡ length front + 0 = omega (arith, count) in
    let some : 1 ≤ n = omega (arith, long, few, count, ap length whole) in
    ap (λ xs. bit_of (xs ++ fill n) (length (rest_of_flag phase) + 32)) whole ∙ ap (bit_of (front ++ fill n)) place
    ∙ get_or-append-add front (fill n) 0 false ∙ fill-first n some
  where
    rest-few : (phase : ℕ) → phase < 8 → length (rest_of_flag phase) < 8
    rest-few phase low = omega (arith, rest-bits phase low, low)

-- ---- a slot of a frame, from its fourth flag on

split-opening : (phase : ℕ) (frame : Option (List ℕ)) → opening phase frame ≡ rest_of_flag phase ++ (flags 4 ++ framed frame)
split-opening phase frame = append_assoc (rest_of_flag phase) (flags 4) (framed frame)

long-opening : (phase : ℕ) (frame : Option (List ℕ)) → length (opening phase frame) ≡ length (rest_of_flag phase) + length (opening 0 frame)
long-opening phase frame = grind (arith, length-append)

long-frame : (octets : List ℕ) → length (opening 0 (Some octets)) ≡ 40 + length (stuffed 5 (bits_of octets))
long-frame octets = grind (arith, length-append)

-- behind the rest of a flag it is a slot of its own
behind-rest : (size phase : ℕ) (frame : Option (List ℕ)) → drop (length (rest_of_flag phase)) (slot_bits size phase (Flags frame))
    ≡ slot_bits (size - length (rest_of_flag phase)) 0 (Flags frame)
behind-rest size phase frame =
    let n : ℕ = length (opening phase frame) in
    let r : ℕ = length (rest_of_flag phase) in
    let left : size - n ≡ size - r - length (opening 0 frame) = omega (arith, long-opening phase frame) in
    ap (λ xs. drop r (xs ++ fill (size - n))) (split-opening phase frame)
    ∙ ap (drop r) (append_assoc (rest_of_flag phase) (flags 4 ++ framed frame) (fill (size - n)))
    ∙ drop-append_seam (rest_of_flag phase) ((flags 4 ++ framed frame) ++ fill (size - n))
    ∙ ap (λ m. (flags 4 ++ framed frame) ++ fill m) left

behind-rest-of : (bits : List Bool) (size phase : ℕ) (octets : List ℕ) → bits ≡ slot_bits size phase (Flags (Some octets))
    → drop (length (rest_of_flag phase)) bits ≡ slot_bits (size - length (rest_of_flag phase)) 0 (Flags (Some octets))
behind-rest-of bits size phase octets e = ap (drop (length (rest_of_flag phase))) e ∙ behind-rest size phase (Some octets)

-- a flag that is heard whole
flag-first : (line : List Bool) → FlagEndsAt (flag ++ line) 8
flag-first line = grind (arith, length-append)

-- of a line whose one piece ends behind that flag the same piece is found where it begins with the flag
only-behind : (missed found : List Found) (count : ℕ) (one : Found) → All (λ f. f.place ≤ count + 8) missed → count + 8 < one.place
    → missed ++ map (behind count) found ≡ one ∷ [] → (f : Found) × (found ≡ f ∷ []) × (behind count f ≡ one)
only-behind [] [] count one early far e = absurd cc
only-behind [] (f ∷ []) count one early far e = let same : behind count f ≡ one = cc in (f, refl, same)
only-behind [] (f ∷ g ∷ found) count one early far e = absurd cc
only-behind (m ∷ missed) found count one early far e =
    let same : m ≡ one = cc in
    let soon : m.place ≤ count + 8 = early 0 m (omega arith) in
    absurd (omega (arith, soon, ap (λ (f : Found). f.place) same, far))

-- what is found in such a slot
slot-alone : FoundLaws → (size : ℕ) (octets : List ℕ) → IsSlot size 0 (Flags (Some octets))
    → pieces_of (slot_bits size 0 (Flags (Some octets))) ≡ whole_at (length (opening 0 (Some octets))) octets ∷ []
slot-alone laws size octets is =
    let line : List Bool = slot_bits size 0 (Flags (Some octets)) in
    let added = laws.found size [] (Flags (Some octets)) (is, tt) in
    let all : pieces_of line ≡ added.0 = ap pieces_of (sym (append-nil line)) ∙ added.1.all ∙ ap (λ xs. xs ++ added.0) pieces-none in
    let none : length (sent_bits size []) ≡ 0 = refl in
    let at : length (sent_bits size []) + length (opening 0 (Some octets)) ≡ length (opening 0 (Some octets)) = omega (arith, none) in
    all ∙ (added.1.found ∙ ap (λ n. whole_at n octets ∷ []) at)

-- and in its bits from the fourth flag on
from-flag : FoundLaws → (size : ℕ) (octets : List ℕ) → IsSlot size 0 (Flags (Some octets))
    → (f : Found) × (pieces_of (drop 24 (slot_bits size 0 (Flags (Some octets)))) ≡ f ∷ [])
    × (behind 24 f ≡ whole_at (length (opening 0 (Some octets))) octets)
from-flag laws size octets is =
    let line : List Bool = slot_bits size 0 (Flags (Some octets)) in
    let long : ℕ = length (opening 0 (Some octets)) in
    let flag_there : FlagEndsAt (drop 24 line) 8 = flag-first (framed (Some octets) ++ fill (size - long)) in
    let count : length (take 24 line) ≡ 24 =
    length-take-le 24 line (omega (arith, length-append (opening 0 (Some octets)) (fill (size - long)), long-frame octets)) in
    let missed = laws.last (take 24 line) (drop 24 line) in
    let early : All (λ f. f.place ≤ 24 + 8) missed.0 =
    subst (λ n. All (λ f. f.place ≤ n + 8) missed.0) count (missed.1.early 8 flag_there) in
    let all : missed.0 ++ map (behind 24) (pieces_of (drop 24 line)) ≡ whole_at long octets ∷ [] =
    subst (λ n. missed.0 ++ map (behind n) (pieces_of (drop 24 line)) ≡ whole_at long octets ∷ []) count
    (sym missed.1.all ∙ (ap pieces_of (take-append-drop 24 line) ∙ slot-alone laws size octets is)) in
    only-behind missed.0 (pieces_of (drop 24 line)) 24 (whole_at long octets) early (omega (arith, long-frame octets)) all

piece-behind : FoundLaws → (bits : List Bool) (rest size : ℕ) (octets : List ℕ) (end : ℕ)
    → drop rest bits ≡ slot_bits size 0 (Flags (Some octets)) → IsSlot size 0 (Flags (Some octets))
    → rest + length (opening 0 (Some octets)) ≡ end → OnePiece bits (rest + 24) octets end
piece-behind laws bits rest size octets end there is at =
    let one = from-flag laws size octets is in
    let from : drop (rest + 24) bits ≡ drop 24 (slot_bits size 0 (Flags (Some octets))) = sym (drop-drop 24 rest bits)
    ∙ ap (drop 24) there in
    record {
      found = one.0;
      all = ap pieces_of from ∙ one.1;
      piece = ap (λ (f : Found). f.piece) one.2;
      octets_are = ap (λ (f : Found). f.octets) one.2;
      place = omega (arith, ap (λ (f : Found). f.place) one.2, at);
    }

pub sent-piece : FoundLaws → (check : Check) (sender : Role) (dlci symbols phase : ℕ) (bits : List Bool) (frame : Frame) → dlci < 64
    → IsCodable check sender dlci symbols phase (sent.Frame frame) → AreBitsOf check sender dlci symbols phase (sent.Frame frame) bits
    → OnePiece bits (length (rest_of_flag phase) + 24) (checked check sender dlci frame) (end_of check sender dlci phase frame)
sent-piece laws check sender dlci symbols phase bits frame few codable e =
    let r : ℕ = length (rest_of_flag phase) in
    let octets : List ℕ = checked check sender dlci frame in
    let sendable = laws.sendable check sender dlci symbols phase (sent.Frame frame) codable in
    let fits = laws.fits check sender dlci symbols phase (sent.Frame frame) (laws.octets check sender dlci (sent.Frame frame) few sendable)
    codable in
    let room : length (opening 0 (Some octets)) ≤ 4 * symbols - r = omega (arith, fits.1, long-opening phase (Some octets)) in
    piece-behind laws bits r (4 * symbols - r) octets (end_of check sender dlci phase frame)
    (behind-rest-of bits (4 * symbols) phase octets e) (fits.0, room) (sym (long-opening phase (Some octets)))

-- ---- so what is found is what was sent

pub finds-none : (check : Check) (sender : Role) (dlci symbols phase : ℕ) (bits : List Bool)
    → bit_of bits (length (rest_of_flag phase) + 32) ≡ false → FindsSent check sender dlci symbols phase bits None
finds-none check sender dlci symbols phase bits zero_there sent.Flags e codable is = refl
finds-none check sender dlci symbols phase bits zero_there (sent.Frame frame) e codable is =
    absurd (false≢true (sym zero_there ∙ ap (λ xs. bit_of xs (length (rest_of_flag phase) + 32)) is
    ∙ frame-begins check sender dlci (4 * symbols) phase frame))
finds-none check sender dlci symbols phase bits zero_there other e codable is = absurd (false≢true (sym e))

-- and else it was a frame, which is found
pub record FindsThere (check : Check) (sender : Role) (dlci symbols phase : ℕ) (bits : List Bool) (found : Option Frame) : Type 0 where
  pub frame : (frame : Frame) → IsCodable check sender dlci symbols phase (sent.Frame frame)
      → AreBitsOf check sender dlci symbols phase (sent.Frame frame) bits → found ≡ Some frame

pub finds-there : (check : Check) (sender : Role) (dlci symbols phase : ℕ) (bits : List Bool) (found : Option Frame)
    → HEAD + TAIL < symbols → phase < 8 → bit_of bits (length (rest_of_flag phase) + 32) ≡ true
    → FindsThere check sender dlci symbols phase bits found → FindsSent check sender dlci symbols phase bits found
finds-there check sender dlci symbols phase bits found long low one k sent.Flags e codable is = grind (arith, flags-begin)
finds-there check sender dlci symbols phase bits found long low one k (sent.Frame frame) e codable is = grind (arith)
finds-there check sender dlci symbols phase bits found long low one k other e codable is = absurd (false≢true (sym e))

pub none-there : FoundLaws → (check : Check) (sender : Role) (dlci symbols phase : ℕ) (bits : List Bool) (found : Option Frame) → dlci < 64
    → wholes (pieces_of (drop (length (rest_of_flag phase) + 24) bits)) ≡ [] → FindsThere check sender dlci symbols phase bits found
none-there laws check sender dlci symbols phase bits found few none = record {
  frame = λ frame codable e.
      absurd (one-whole bits (length (rest_of_flag phase) + 24) (checked check sender dlci frame) (end_of check sender dlci phase frame)
      (sent-piece laws check sender dlci symbols phase bits frame few codable e) none);
}

pub first-there : FoundLaws → (check : Check) (sender : Role) (dlci symbols phase : ℕ) (bits : List Bool) (deframer : Kept) (end : ℕ)
    (octets : List ℕ) (found : Option Frame) → dlci < 64 → EndsFirst deframer bits (length (rest_of_flag phase) + 24) end
    → octets ≡ lent_of (part bits (length (rest_of_flag phase) + 24) end)
    → ((frame : Frame) → SpellsFrame check sender dlci octets frame → found ≡ Some frame)
    → FindsThere check sender dlci symbols phase bits found
first-there laws check sender dlci symbols phase bits deframer end octets found few first lent k = record {
  frame = λ frame codable e.
      let is = first-is deframer bits (length (rest_of_flag phase) + 24) end (checked check sender dlci frame)
      (end_of check sender dlci phase frame) first (sent-piece laws check sender dlci symbols phase bits frame few codable e) in
      k frame
      (subst (λ xs. SpellsFrame check sender dlci xs frame) (sym (lent ∙ is.0)) (spells check sender dlci frame codable.sendable.0));
}

-- where its octets are, and where it ends
some-octets : (check : Check) (sender : Role) (dlci : ℕ) (frame : Frame) → checked check sender dlci frame ≡ [] → ⊥
some-octets check sender dlci frame none = grind (arith)

pub found-at : FoundLaws → (check : Check) (sender : Role) (dlci phase : ℕ) (bits : List Bool) (seeker : Seeker) (octets : List ℕ)
    (found : Option Frame) → dlci < 64 → EndsFirst seeker.deframer bits (length (rest_of_flag phase) + 24) seeker.end
    → octets ≡ lent_of (part bits (length (rest_of_flag phase) + 24) seeker.end)
    → IsLent (part bits (length (rest_of_flag phase) + 24) seeker.end) octets
    → IfSome found (λ frame. octets ≡ checked check sender dlci frame) → IfSome found (IsAt check sender dlci phase bits seeker)
found-at laws check sender dlci phase bits seeker octets None few first lent is e = tt
found-at laws check sender dlci phase bits seeker octets (Some frame) few first lent is e = record {
  lends = record { read = part bits (length (rest_of_flag phase) + 24) seeker.end; stands = first.stands; lent = sym lent ∙ e };
  by = elim is [
    | inl whole ↦
        (let long = piece-long bits (length (rest_of_flag phase) + 24) seeker.end octets (omega (arith, first.later)) first.within whole in
        omega (
          arith,
          long,
          ap (λ xs. length (stuffed 5 (bits_of xs))) e,
          long-opening phase (Some (checked check sender dlci frame)),
          long-frame (checked check sender dlci frame),
        ))
    | inr none ↦ absurd (some-octets check sender dlci frame (sym e ∙ none.0))
  ];
  at = λ symbols codable same.
      (first-is seeker.deframer bits (length (rest_of_flag phase) + 24) seeker.end (checked check sender dlci frame)
      (end_of check sender dlci phase frame) first (sent-piece laws check sender dlci symbols phase bits frame few codable same)).1;
}

-- ---- bits and quads of a slot

pub bit-in : (k r : ℕ) (quads : List ℕ) → k < length quads → r < 4
    → bit_of (line_bits quads) (4 * k + r) ≡ bit_of (low_bits 4 (slice_index quads k)) r
bit-in k r [] h low = absurd (omega (arith, h))
bit-in zero zero (x ∷ quads) h low = refl
bit-in zero (suc zero) (x ∷ quads) h low = refl
bit-in zero (suc (suc zero)) (x ∷ quads) h low = refl
bit-in zero (suc (suc (suc zero))) (x ∷ quads) h low = refl
bit-in zero (suc (suc (suc (suc r)))) (x ∷ quads) h low = absurd (omega (arith, low))
bit-in (suc k) r (x ∷ quads) h low =
    let place : 4 * suc k + r ≡ suc (suc (suc (suc (4 * k + r)))) = omega arith in
    ap (bit_of (line_bits (x ∷ quads))) place ∙ bit-in k r quads (omega (arith, h)) low
