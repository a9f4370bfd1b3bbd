-- Flags and frames have at most six ones in a row.
use Rattle.detection.proofs.Names.{◌≡◌, ℕ, zero, suc, ◌+◌, ◌-◌, ◌/◌, ◌%◌, ◌<◌, ◌≤◌, Bool, true, false, List, [], ◌∷◌, ◌++◌, length, get_or}
use Rattle.detection.proofs.Names.{take, drop, Option, Some, None, arith, append_assoc, length-drop, refl, sym, ◌∙◌, ap, subst}
use Rattle.detection.proofs.Names.{take-append-drop, get_or-take, get_or-drop, get_or-replicate, get_or_default, same_lists, length-take-le}
use Rattle.detection.proofs.Names.{flag, flags, opening, slot_bits, Flags, ones}
use Rattle.frame_check.specs.Bits.{bits_of}
use Rattle.bit_stuffing.specs.Stuffing.{stuffed}
use Rattle.bit_stuffing.specs.Slots.{fill, rest_of_flag, framed}

-- bits of which so many ones may stand at the head, and at most six in a row behind a zero
abbrev pub Calm : List Bool → ℕ → Type 0
Calm [] room = Unit {0}
Calm (false ∷ bits) room = Calm bits 6
Calm (true ∷ bits) zero = ⊥
Calm (true ∷ bits) (suc room) = Calm bits room

calm-more : (bits : List Bool) (room more : ℕ) → room ≤ more → Calm bits room → Calm bits more
calm-more [] room more h c = tt
calm-more (false ∷ bits) room more h c = c
calm-more (true ∷ bits) zero more h c = absurd c
calm-more (true ∷ bits) (suc room) zero h c = absurd (omega arith)
calm-more (true ∷ bits) (suc room) (suc more) h c = calm-more bits room more (omega arith) c

-- the same of what comes later
pub calm-behind : (front bits : List Bool) (room : ℕ) → room ≤ 6 → Calm (front ++ bits) room → Calm bits 6
calm-behind [] bits room h c = calm-more bits room 6 h c
calm-behind (false ∷ front) bits room h c = calm-behind front bits 6 (omega arith) c
calm-behind (true ∷ front) bits zero h c = absurd c
calm-behind (true ∷ front) bits (suc room) h c = calm-behind front bits room (omega arith) c

eight : (bits : List Bool) (room : ℕ) → room ≤ 6 → Calm (ones 8 ++ bits) room → ⊥
eight bits zero h c = c
eight bits (suc zero) h c = c
eight bits (suc (suc zero)) h c = c
eight bits (suc (suc (suc zero))) h c = c
eight bits (suc (suc (suc (suc zero)))) h c = c
eight bits (suc (suc (suc (suc (suc zero))))) h c = c
eight bits (suc (suc (suc (suc (suc (suc zero)))))) h c = c
eight bits (suc (suc (suc (suc (suc (suc (suc room))))))) h c = omega arith

-- no eight ones in a row
pub no_eight : (front bits : List Bool) → Calm (front ++ (ones 8 ++ bits)) 6 → ⊥
no_eight front bits c = eight bits 6 (omega arith) (calm-behind front (ones 8 ++ bits) 6 (omega arith) c)

pub no_eight-at : (bits : List Bool) (q : ℕ) → Calm bits 6 → q + 8 ≤ length bits → ((i : ℕ) → i < 8 → get_or bits (q + i) false ≡ true) → ⊥
no_eight-at bits q c fits set =
    no_eight (take q bits) (drop 8 (drop q bits))
    (subst (λ l. Calm l 6)
    (sym (take-append-drop q bits)
    ∙ ap (λ l. take q bits ++ l) (sym (take-append-drop 8 (drop q bits)) ∙ ap (λ l. l ++ drop 8 (drop q bits)) all)) c)
  where
    room : length (take 8 (drop q bits)) ≡ 8
    room = length-take-le 8 (drop q bits) (omega (arith, fits, length-drop q bits))

    all : take 8 (drop q bits) ≡ ones 8
    all = same_lists (take 8 (drop q bits)) (ones 8) room (λ i d l.
        let near : i < 8 = omega (arith, l, room) in
        let within : q + i < length bits = omega (arith, fits) in
        get_or-take 8 (drop q bits) i d near ∙ get_or-drop q bits i d ∙ get_or_default bits (q + i) d false within ∙ set i near
        ∙ sym (get_or-replicate 8 i true d near))

-- flags
calm-flags : (count : ℕ) (bits : List Bool) → Calm bits 6 → Calm (flags count ++ bits) 6
calm-flags zero bits c = c
calm-flags (suc count) bits c = calm-flags count bits c

calm-cut : (j : ℕ) → Calm (take j flag) 6
calm-cut zero = tt
calm-cut (suc zero) = tt
calm-cut (suc (suc zero)) = tt
calm-cut (suc (suc (suc zero))) = tt
calm-cut (suc (suc (suc (suc zero)))) = tt
calm-cut (suc (suc (suc (suc (suc zero))))) = tt
calm-cut (suc (suc (suc (suc (suc (suc zero)))))) = tt
calm-cut (suc (suc (suc (suc (suc (suc (suc zero))))))) = tt
calm-cut (suc (suc (suc (suc (suc (suc (suc (suc zero)))))))) = tt
calm-cut (suc (suc (suc (suc (suc (suc (suc (suc (suc j))))))))) = tt

calm-fill : (n : ℕ) → Calm (fill n) 6
calm-fill n = calm-flags (n / 8) (take (n % 8) flag) (calm-cut (n % 8))

-- the stuffing of a content, and a zero behind it
calm-stuffed : (room : ℕ) (content bits : List Bool) → Calm bits 6 → Calm (stuffed room content ++ false ∷ bits) (suc room)
calm-stuffed zero [] bits c = c
calm-stuffed zero (true ∷ content) bits c = calm-stuffed 4 content bits c
calm-stuffed zero (false ∷ content) bits c = calm-stuffed 5 content bits c
calm-stuffed (suc room) [] bits c = c
calm-stuffed (suc room) (true ∷ content) bits c = calm-stuffed room content bits c
calm-stuffed (suc room) (false ∷ content) bits c = calm-stuffed 5 content bits c

calm-framed : (frame : Option (List ℕ)) (n : ℕ) → Calm (framed frame ++ fill n) 6
calm-framed None n = calm-fill n
calm-framed (Some octets) n =
    subst (λ l. Calm l 6) (sym (append_assoc (stuffed 5 (bits_of octets)) flag (fill n)))
    (calm-stuffed 5 (bits_of octets) (true ∷ true ∷ true ∷ true ∷ true ∷ true ∷ false ∷ fill n) (calm-fill n))

-- a flag slot, with the sent bits of an unfinished flag before it

slot-right : (phase n : ℕ) (frame : Option (List ℕ))
    → opening phase frame ++ fill n ≡ rest_of_flag phase ++ (flags 4 ++ (framed frame ++ fill n))
slot-right phase n frame = grind (arith, append_assoc)

pub slot-begins : (size phase : ℕ) (frame : Option (List ℕ))
    → (rest : List Bool) × (take phase flag ++ slot_bits size phase (Flags frame) ≡ false ∷ rest)
slot-begins size zero frame = (drop 1 (slot_bits size 0 (Flags frame)), refl)
slot-begins size (suc phase) frame =
    (take phase (true ∷ true ∷ true ∷ true ∷ true ∷ true ∷ false ∷ []) ++ slot_bits size (suc phase) (Flags frame), refl)

pub slot-calm : (size phase : ℕ) (frame : Option (List ℕ)) → Calm (take phase flag ++ slot_bits size phase (Flags frame)) 6
slot-calm size phase frame =
    subst (λ l. Calm (take phase flag ++ l) 6) (sym (slot-right phase (size - length (opening phase frame)) frame))
    (each phase (size - length (opening phase frame)))
  where
    each : (phase n : ℕ) → Calm (take phase flag ++ (rest_of_flag phase ++ (flags 4 ++ (framed frame ++ fill n)))) 6
    each zero n = calm-framed frame n
    each (suc phase) n =
        let tail : List Bool = flags 4 ++ (framed frame ++ fill n) in
        let joined : flag ++ tail ≡ take (suc phase) flag ++ (drop (suc phase) flag ++ tail) =
        ap (λ l. l ++ tail) (sym (take-append-drop (suc phase) flag))
        ∙ append_assoc (take (suc phase) flag) (drop (suc phase) flag) tail in
        subst (λ l. Calm l 6) joined (calm-framed frame n)
