-- One more bit: what ended at an earlier place still does.
use Rattle.std.proofs.lemmas.List.{length_push}
use Rattle.bit_stuffing.proofs.Names.{◌≡◌, ℕ, ◌+◌, ◌-◌, ◌<◌, ◌≤◌, Bool, List, [], ◌∷◌, ◌++◌, length, arith, ◌∙◌}
use Rattle.bit_stuffing.proofs.Names.{common_steps, bit_of, FlagEndsAt, SevenOnesEndAt}

-- a bit before the last one
pub bit-before : (bits : List Bool) (b : Bool) (i : ℕ) → i < length bits → bit_of (bits ++ b ∷ []) i ≡ bit_of bits i
bit-before bits b i h = grind (arith, common_steps)

pub bit-last : (bits : List Bool) (b : Bool) (i : ℕ) → i ≡ length bits → bit_of (bits ++ b ∷ []) i ≡ b
bit-last bits b i h = grind (arith, common_steps)

pub flag-stays : (bits : List Bool) (b : Bool) (n : ℕ) → FlagEndsAt bits n → FlagEndsAt (bits ++ b ∷ []) n
flag-stays bits b n h = record {
  room = h.room;
  within = omega (arith, h.within, length_push bits b);
  spelled = λ i l. bit-before bits b (n - 8 + i) (omega (arith, h.room, h.within)) ∙ h.spelled i l;
}

pub flag-was : (bits : List Bool) (b : Bool) (n : ℕ) → n ≤ length bits → FlagEndsAt (bits ++ b ∷ []) n → FlagEndsAt bits n
flag-was bits b n within h = grind (arith, bit-before)

pub seven-was : (bits : List Bool) (b : Bool) (n : ℕ) → n ≤ length bits → SevenOnesEndAt (bits ++ b ∷ []) n → SevenOnesEndAt bits n
seven-was bits b n within h = grind (arith, bit-before)

pub seven-stays : (bits : List Bool) (b : Bool) (n : ℕ) → SevenOnesEndAt bits n → SevenOnesEndAt (bits ++ b ∷ []) n
seven-stays bits b n h = record {
  room = h.room;
  within = omega (arith, h.within, length_push bits b);
  ones = λ i l. bit-before bits b (n - 7 + i) (omega (arith, h.room, h.within)) ∙ h.ones i l;
}

-- at one place a flag or seven ones end, never both
pub flag_or_seven : (bits : List Bool) (n : ℕ) → FlagEndsAt bits n → SevenOnesEndAt bits n → ⊥
flag_or_seven bits n f s = grind (arith)
