-- Whether eight numbers are one.
use Rattle.std.proofs.Common.{◌≡◌, ◌≢◌, inl, inr, ℕ, ◌<◌, Bool, true, false, ◌&&◌, nat_eq, arith, sym, ◌∙◌}
use Rattle.std.proofs.lemmas.Bool.{and_parts, cases_eq, eqb-true, eqb-false, and_cases}
use Rattle.exact_decoder.proofs.Vectors.{each_of_eight}

-- each of them is the next, and the last one the first
abbrev pub are_one : (ℕ → ℕ) → Bool
are_one l = nat_eq (l 0) (l 1) && (nat_eq (l 1) (l 2) && (nat_eq (l 2) (l 3) && (nat_eq (l 3) (l 4) && (nat_eq (l 4) (l 5)
    && (nat_eq (l 5) (l 6) && (nat_eq (l 6) (l 7) && nat_eq (l 7) (l 0)))))))

pub all-one : (l : ℕ → ℕ) → are_one l ≡ true → (i : ℕ) → i < 8 → l i ≡ l 0
all-one l h = grind (arith, and_parts, nat_eq, eqb-true, each_of_eight)

-- of two that differ one is not the first
unlike : (l : ℕ → ℕ) (i j : ℕ) → i < 8 → j < 8 → nat_eq (l i) (l j) ≡ false → (k : ℕ) × (k < 8) × (l k ≢ l 0)
unlike l i j in_i in_j h = elim (cases_eq (l i) (l 0)) [
  | inl same ↦ (j, in_j, λ e. eqb-false (l i) (l j) h (same ∙ sym e))
  | inr differ ↦ (i, in_i, differ)
]

pub one-differs : (l : ℕ → ℕ) → are_one l ≡ false → (i : ℕ) × (i < 8) × (l i ≢ l 0)
one-differs l h = elim (and_cases (nat_eq (l 0) (l 1)) _ h) [
  | inl at ↦ unlike l 0 1 (omega arith) (omega arith) at
  | inr a ↦ elim (and_cases (nat_eq (l 1) (l 2)) _ a) [
    | inl at ↦ unlike l 1 2 (omega arith) (omega arith) at
    | inr b ↦ elim (and_cases (nat_eq (l 2) (l 3)) _ b) [
      | inl at ↦ unlike l 2 3 (omega arith) (omega arith) at
      | inr c ↦ elim (and_cases (nat_eq (l 3) (l 4)) _ c) [
        | inl at ↦ unlike l 3 4 (omega arith) (omega arith) at
        | inr d ↦ elim (and_cases (nat_eq (l 4) (l 5)) _ d) [
          | inl at ↦ unlike l 4 5 (omega arith) (omega arith) at
          | inr e ↦ elim (and_cases (nat_eq (l 5) (l 6)) _ e) [
            | inl at ↦ unlike l 5 6 (omega arith) (omega arith) at
            | inr f ↦ elim (and_cases (nat_eq (l 6) (l 7)) (nat_eq (l 7) (l 0)) f) [
              | inl at ↦ unlike l 6 7 (omega arith) (omega arith) at
              | inr at ↦ unlike l 7 0 (omega arith) (omega arith) at
            ]
          ]
        ]
      ]
    ]
  ]
]
