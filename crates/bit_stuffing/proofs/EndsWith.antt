-- Tests of the last bits of a stream.
use Rattle.bit_stuffing.proofs.Names.{◌≡◌, ℕ, ◌+◌, ◌-◌, ◌<◌, ◌≤◌, Bool, true, false, List, [], ◌∷◌, length, drop, get_or, arith}
use Rattle.bit_stuffing.proofs.Names.{length-drop, refl, sym, ◌∙◌, ap, false≢true, get_or-drop, same_lists, get_or_default, beq, pointwise}
use Rattle.bit_stuffing.proofs.Names.{ends_with, bit_of, flag, FlagEndsAt, SevenOnesEndAt, seven_ones}
use Rattle.bit_stuffing.proofs.Latest.{below8}

pub same_bits : (xs ys : List Bool) → pointwise beq xs ys ≡ true → xs ≡ ys
same_bits [] [] e = refl
same_bits [] (y ∷ ys) e = absurd (false≢true e)
same_bits (x ∷ xs) [] e = absurd (false≢true e)
same_bits (true ∷ xs) (true ∷ ys) e = ap (λ t. true ∷ t) (same_bits xs ys e)
same_bits (false ∷ xs) (false ∷ ys) e = ap (λ t. false ∷ t) (same_bits xs ys e)
same_bits (true ∷ xs) (false ∷ ys) e = absurd (false≢true e)
same_bits (false ∷ xs) (true ∷ ys) e = absurd (false≢true e)

pub bits-same : (xs : List Bool) → pointwise beq xs xs ≡ true
bits-same [] = refl
bits-same (true ∷ xs) = bits-same xs
bits-same (false ∷ xs) = bits-same xs

-- the bits end with the text
pub record Ends (text bits : List Bool) : Type 0 where
  pub room : length text ≤ length bits
  pub spelled : (i : ℕ) → i < length text → bit_of bits (length bits - length text + i) ≡ bit_of text i

pub ends : (text bits : List Bool) → ends_with beq bits text ≡ true → Ends text bits
ends text bits e = record {
  room = omega (arith, ap length same, length-drop (length bits - length text) bits);
  spelled = λ i l. sym (get_or-drop (length bits - length text) bits i false) ∙ ap (λ t. get_or t i false) (sym same);
}
  where
    same : text ≡ drop (length bits - length text) bits
    same = same_bits text (drop (length bits - length text) bits) e

pub ends-with : (text bits : List Bool) → Ends text bits → ends_with beq bits text ≡ true
ends-with text bits h = ap (pointwise beq text) (sym same) ∙ bits-same text
  where
    wide : length text ≡ length (drop (length bits - length text) bits)
    wide = omega (arith, h.room, length-drop (length bits - length text) bits)

    same : text ≡ drop (length bits - length text) bits
    same = same_lists text (drop (length bits - length text) bits) wide
        (λ i d l. get_or_default text i d false l ∙ sym (h.spelled i l) ∙ sym (get_or-drop (length bits - length text) bits i false)
        ∙ get_or_default (drop (length bits - length text) bits) i false d (omega (arith, wide)))

-- flags and aborts

pub ends-flag : (bits : List Bool) → ends_with beq bits flag ≡ true → FlagEndsAt bits (length bits)
ends-flag bits e = let h = ends flag bits e in record { room = h.room; within = omega arith; spelled = h.spelled }

pub flag-ends : (bits : List Bool) → FlagEndsAt bits (length bits) → ends_with beq bits flag ≡ true
flag-ends bits f = ends-with flag bits (record { room = f.room; spelled = f.spelled })

one_of : (i : ℕ) → i < 8 → i < 7 → bit_of seven_ones i ≡ true
one_of = grind (arith, below8)

pub ends-seven : (bits : List Bool) → ends_with beq bits seven_ones ≡ true → SevenOnesEndAt bits (length bits)
ends-seven bits e = let h = ends seven_ones bits e in grind (arith, one_of)

pub seven-ends : (bits : List Bool) → SevenOnesEndAt bits (length bits) → ends_with beq bits seven_ones ≡ true
seven-ends bits s = ends-with seven_ones bits (record { room = s.room; spelled = λ i l. s.ones i l ∙ sym (one_of i (omega arith) l) })
