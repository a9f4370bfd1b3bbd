-- How many bits slots have.
use Rattle.bit_stuffing.proofs.Names.{◌≡◌, inl, inr, ℕ, zero, suc, ◌+◌, ◌-◌, ◌*◌, ◌/◌, ◌<◌, ◌≤◌, Bool, true, false, not, ◌&&◌, List, []}
use Rattle.bit_stuffing.proofs.Names.{◌∷◌, ◌++◌, length, take, replicate, Some, None, arith, length-append, length-drop, refl, sym, ◌∙◌, ap}
use Rattle.bit_stuffing.proofs.Names.{subst, cases_lt, false≢true, append-nil, beq, pointwise, ends_with}
use Rattle.bit_stuffing.proofs.Names.{bit_of, flag, FlagEndsAt, seven_ones, Slot, flags, rest_of_flag, opening, slot_bits, IsPlain, IsSlot}
use Rattle.bit_stuffing.proofs.Names.{stuffed, length-bits_of, bits_of}
use Rattle.std.specs.List.{starts_with}
use Rattle.std.proofs.lemmas.List.{length-replicate, get_or-replicate, get_or-take}
use Rattle.bit_stuffing.specs.Slots.{are_flagless}
use Rattle.bit_stuffing.proofs.Between.{take-length}
use Rattle.bit_stuffing.proofs.EndsWith.{bits-same, ends-seven}
use Rattle.bit_stuffing.proofs.Fill.{filled-up}
use Rattle.bit_stuffing.proofs.Plain.{bit-left, bit-right}

pub length-slot_bits : (size phase : ℕ) (slot : Slot) → IsSlot size phase slot → length (slot_bits size phase slot) ≡ size
length-slot_bits size phase slot is = grind (arith, filled-up)

-- stuffing adds a bit for five at most
short_stuffing : (room : ℕ) (content : List Bool) → room ≤ 5 → 5 * length (stuffed room content) + room ≤ 6 * length content + 5
short_stuffing zero [] h = omega arith
short_stuffing zero (true ∷ content) h = omega (arith, short_stuffing 4 content (omega arith))
short_stuffing zero (false ∷ content) h = omega (arith, short_stuffing 5 content (omega arith))
short_stuffing (suc room) [] h = omega arith
short_stuffing (suc room) (true ∷ content) h = omega (arith, short_stuffing room content (omega arith))
short_stuffing (suc room) (false ∷ content) h = omega (arith, short_stuffing 5 content (omega arith))

short_rest : (phase : ℕ) → phase < 8 → length (rest_of_flag phase) ≤ 7
short_rest phase h = grind (arith, length-drop)

pub length-empty : (phase : ℕ) → phase < 8 → length (opening phase None) ≤ 39
length-empty phase low = grind (arith, short_rest, append-nil, flags, length-append)

pub length-opening : (phase : ℕ) (octets : List ℕ) → phase < 8
    → length (opening phase (Some octets)) ≤ 47 + 8 * length octets + 8 * length octets / 5
length-opening phase octets low = omega (
  arith,
  short_rest phase low,
  short_stuffing 5 (bits_of octets) (omega arith),
  length-bits_of octets,
  length-append {A = Bool} (rest_of_flag phase) (flags 4),
  length-append {A = Bool} (rest_of_flag phase ++ flags 4) (stuffed 5 (bits_of octets) ++ flag),
  length-append {A = Bool} (stuffed 5 (bits_of octets)) flag,
)

-- given bits, followed by ones
pub plain-grows : (size more : ℕ) (bits : List Bool) → IsPlain size bits → IsPlain (size + more) (bits ++ replicate more true)
plain-grows size more bits is =
    record {
      full = omega (arith, is.full, wide);
      no_flag = no_flag;
      ones = record { room = omega (arith, is.ones.room, wide); within = omega arith; ones = ones };
    }
  where
    wide : length (bits ++ replicate more true) ≡ length bits + more
    wide = omega (arith, length-append {A = Bool} bits (replicate more true), length-replicate {A = Bool} more true)

    -- a place behind the given bits
    one : (i : ℕ) → length bits ≤ i → i < length bits + more → bit_of (bits ++ replicate more true) i ≡ true
    one i low high =
        let place : length bits + (i - length bits) ≡ i = omega arith in grind (arith, bit-right, get_or-replicate)

    no_flag : (n : ℕ) → FlagEndsAt (bits ++ replicate more true) n → ⊥
    no_flag n f = elim (cases_lt (length bits) n) [
      | inl behind ↦
          let place : n - 8 + 7 ≡ n - 1 = omega (arith, f.room) in
          let last : bit_of (bits ++ replicate more true) (n - 8 + 7) ≡ true = grind (arith, one, wide) in
          false≢true (sym (f.spelled 7 (omega arith)) ∙ last)
      | inr front ↦ is.no_flag n
          record {
            room = f.room;
            within = front;
            spelled = λ i l. sym (bit-left bits (replicate more true) (n - 8 + i) (omega (arith, f.room))) ∙ f.spelled i l;
          }
    ]

    ones : (i : ℕ) → i < 7 → bit_of (bits ++ replicate more true) (length (bits ++ replicate more true) - 7 + i) ≡ true
    ones i l = elim (cases_lt (length (bits ++ replicate more true) - 7 + i) (length bits)) [
      | inl front ↦
          let place : length bits - 7 + (i + more) ≡ length (bits ++ replicate more true) - 7 + i = omega (arith, wide, is.ones.room) in
          bit-left bits (replicate more true) (length (bits ++ replicate more true) - 7 + i) front ∙ ap (bit_of bits) (sym place)
          ∙ is.ones.ones (i + more) (omega (arith, wide, is.ones.room))
      | inr behind ↦ one (length (bits ++ replicate more true) - 7 + i) behind (omega (arith, wide, is.ones.room))
    ]

-- given bits by tests

-- a flag at the front is seen
front-flag : (bits : List Bool) → FlagEndsAt bits 8 → starts_with beq bits flag ≡ true
front-flag bits f = ap (pointwise beq flag) front ∙ bits-same flag
  where
    front : take 8 bits ≡ flag
    front = grind (arith, take-length, get_or-take)

-- a flag farther back stands in the rest
rest-flag : (bit : Bool) (bits : List Bool) (n : ℕ) → 8 < n → FlagEndsAt (bit ∷ bits) n → FlagEndsAt bits (n - 1)
rest-flag bit bits n far f = record {
  room = omega arith;
  within = omega (arith, f.within);
  spelled = λ i l. let place : suc (n - 1 - 8 + i) ≡ n - 8 + i = omega arith in ap (bit_of (bit ∷ bits)) place ∙ f.spelled i l;
}

not_both : (a b : Bool) → (not a && b) ≡ true → (a ≡ true → ⊥) × (b ≡ true)
not_both a b e = grind (arith)

flagless-place : (bits : List Bool) → are_flagless bits ≡ true → (n : ℕ) → FlagEndsAt bits n → ⊥
flagless-place [] t n f = absurd (omega (arith, f.room, f.within))
flagless-place (bit ∷ bits) t n f =
    let both = not_both (starts_with beq (bit ∷ bits) flag) (are_flagless bits) t in
    elim (cases_lt 8 n) [
      | inl far ↦ flagless-place bits both.1 (n - 1) (rest-flag bit bits n far f)
      | inr near ↦ let eight : n ≡ 8 = omega (arith, f.room) in both.0 (front-flag (bit ∷ bits) (subst (FlagEndsAt (bit ∷ bits)) eight f))
    ]

pub plain-by_tests : (bits : List Bool) → are_flagless bits ≡ true → ends_with beq bits seven_ones ≡ true → IsPlain (length bits) bits
plain-by_tests bits t e = record { full = refl; no_flag = flagless-place bits t; ones = ends-seven bits e }
