-- The ones in a row at the end of a stream.
use Rattle.std.proofs.lemmas.List.{length_push}
use Rattle.bit_stuffing.proofs.Names.{◌≡◌, ℕ, ◌+◌, ◌-◌, ◌<◌, ◌≤◌, inl, inr, Bool, true, false, List, [], ◌∷◌, ◌++◌, length, arith, refl}
use Rattle.bit_stuffing.proofs.Names.{sym, ◌∙◌, min, cases_lt, false≢true, bit_of, flag, FlagEndsAt, SevenOnesEndAt, OpenedAt}
use Rattle.bit_stuffing.proofs.Places.{bit-before, bit-last}
use Rattle.bit_stuffing.proofs.Openings.{before_open}
use Rattle.bit_stuffing.proofs.Latest.{below8}

-- The bits end with this many ones. Below seven a zero stands before them.
pub record CountsOnes (ones : ℕ) (bits : List Bool) : Type 0 where
  pub few : ones ≤ 7
  pub set : (i : ℕ) → i < length bits → length bits ≤ i + ones → bit_of bits i ≡ true
  pub zero : ones < 7 → (ones < length bits) × (bit_of bits (length bits - 1 - ones) ≡ false)

pub one-more : (bits : List Bool) (k : ℕ) → CountsOnes k bits → CountsOnes (min k 6 + 1) (bits ++ true ∷ [])
one-more bits k h = record {
  few = omega arith;
  set = λ i within reaches. elim (cases_lt i (length bits)) [
    | inl l ↦ bit-before bits true i l ∙ h.set i l (omega (arith, length_push bits true))
    | inr l ↦ bit-last bits true i (omega (arith, length_push bits true))
  ];
  zero = λ few.
      let z = h.zero (omega arith) in
      let n : length (bits ++ true ∷ []) - 1 - (min k 6 + 1) ≡ length bits - 1 - k = omega (arith, z.0, length_push bits true) in
      (omega (arith, z.0, length_push bits true), rw n (bit-before bits true (length bits - 1 - k) (omega (arith, z.0)) ∙ z.1));
}

pub zero-more : (bits : List Bool) → CountsOnes 0 (bits ++ false ∷ [])
zero-more bits = record {
  few = omega arith;
  set = λ i within reaches. absurd (omega arith);
  zero = λ few. (
    omega (arith, length_push bits false),
    bit-last bits false (length (bits ++ false ∷ []) - 1 - 0) (omega (arith, length_push bits false)),
  );
}

-- no flag ends with a one
pub no_flag-one : (bits : List Bool) → FlagEndsAt (bits ++ true ∷ []) (length bits + 1) → ⊥
no_flag-one bits h = grind (arith, bit-last)

is_zero : (i : ℕ) → i ≤ 0 → i ≡ 0
is_zero i h = omega arith

flag-middle : (i : ℕ) → 0 < i → i < 7 → bit_of flag i ≡ true
flag-middle i low high = grind (arith, below8)

flag-end : (i : ℕ) → 7 ≤ i → i < 8 → bit_of flag i ≡ false
flag-end i low high = let e : i ≡ 7 = omega arith in rw e refl

-- a zero behind six ones ends a flag, and behind another number of ones none
pub flag-six : (bits : List Bool) → CountsOnes 6 bits → FlagEndsAt (bits ++ false ∷ []) (length bits + 1)
flag-six bits h = let z = h.zero (omega arith) in let start : length bits + 1 - 8 + 0 ≡ length bits - 1 - 6 = omega (arith, z.0) in record {
  room = omega (arith, (h.zero (omega arith)).0);
  within = omega (arith, length_push bits false);
  spelled = grind (arith, bit-before, flag-middle, is_zero, bit-last, flag-end);
}

pub six-flag : (bits : List Bool) (k : ℕ) → CountsOnes k bits → FlagEndsAt (bits ++ false ∷ []) (length bits + 1) → k ≡ 6
six-flag bits k h f = grind (arith, flag-middle, bit-before)

pub seven-ones : (bits : List Bool) → CountsOnes 6 bits → SevenOnesEndAt (bits ++ true ∷ []) (length bits + 1)
seven-ones bits h = let z = h.zero (omega arith) in record {
  room = omega (arith, (h.zero (omega arith)).0);
  within = omega (arith, length_push bits true);
  ones = grind (arith, bit-before, bit-last);
}

pub ones-seven : (bits : List Bool) (k : ℕ) → CountsOnes k bits → SevenOnesEndAt (bits ++ true ∷ []) (length bits + 1) → 6 ≤ k
ones-seven bits k h s = grind (arith, bit-before)

-- seven ones don't end with a zero
pub no_seven-zero : (bits : List Bool) → SevenOnesEndAt (bits ++ false ∷ []) (length bits + 1) → ⊥
no_seven-zero bits s = false≢true (sym (bit-last bits false (length bits + 1 - 7 + 6) (omega (arith, s.room))) ∙ s.ones 6 (omega arith))

-- nothing is open behind seven ones
pub ones-shut : (bits : List Bool) (p : ℕ) → ((i : ℕ) → i < length bits → length bits ≤ i + 7 → bit_of bits i ≡ true) → OpenedAt bits p → ⊥
ones-shut bits p set o = elim (cases_lt (length bits) (p + 7)) [
  | inl near ↦ false≢true
      (sym (before_open bits p o) ∙ set (p - 1) (omega (arith, o.flag_ends.room, o.flag_ends.within)) (omega (arith, o.flag_ends.room)))
  | inr far ↦ o.alive (length bits) far record {
    room = omega arith;
    within = omega arith;
    ones = λ i l. set (length bits - 7 + i) (omega (arith, o.flag_ends.room)) (omega arith);
  }
]

pub opened-few : (bits : List Bool) (k p : ℕ) → CountsOnes k bits → OpenedAt bits p → k < 7
opened-few bits k p h o = elim (cases_lt k 7) [ inl few ↦ few | inr seven ↦ absurd (ones-shut bits p (λ i l m. h.set i l (omega arith)) o) ]
