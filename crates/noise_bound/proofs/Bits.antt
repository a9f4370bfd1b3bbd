-- Which bits may differ behind a descrambler.
use Rattle.noise_bound.proofs.Names.{◌≡◌, ◌≢◌, ℕ, ◌+◌, ◌-◌, ◌<◌, ◌≤◌, ◌⊎◌, inl, inr, Bool, false, List, length, get_or, nat_lt, arith}
use Rattle.noise_bound.proofs.Names.{cases_lt, cases_eq, nat_tests, line_of, depends_on_three, earlier}
use Rattle.scramblers.specs.Stream.{bit_at_place}
use Rattle.line_coding.specs.Demodulates.{Demodulates}
use Rattle.noise_bound.specs.Turned.{IsOfFirstTwo}
use Rattle.noise_bound.specs.Laws.{QuadsAreAlike, QuadsAreAlikeOfAny, FewBitsDiffer, FewBitsDifferOfAny}
use Rattle.noise_bound.proofs.Turned.{BothBegin, begin-from_one, begin-from_any}
use Rattle.noise_bound.proofs.Quads.{quads-alike, bits-alike}

pub quads-are-alike : QuadsAreAlike
quads-are-alike start low i labels front turned_front samples h r some within turned_within =
    quads-alike i labels front turned_front (begin-from_one start labels front turned_front samples low h r) some within turned_within

pub quads-are-alike_of_any : QuadsAreAlikeOfAny
quads-are-alike_of_any i labels front turned_front samples h r some within turned_within =
    quads-alike i labels front turned_front (begin-from_any labels front turned_front samples h r) some within turned_within

-- bits so many places before one are the same, unless they are of the first two
same-before : (i k : ℕ) (a b : List Bool) → ((j : ℕ) → 2 ≤ j → j ≤ i → get_or a j false ≡ get_or b j false) → (i ≡ k → ⊥) → (i ≡ k + 1 → ⊥)
    → earlier a i k ≡ earlier b i k
same-before i k a b same first second = elim (cases_lt i k) [
  | inl less ↦ grind (arith, nat_tests)
  | inr past ↦
      let far : 2 ≤ i - k = at-least i k past first second in
      let here = same (i - k) far (omega arith) in
      let no : nat_lt i k ≡ false = grind (arith, nat_tests) in
      rw no here
]
  where
    at-least : (i k : ℕ) → k ≤ i → (i ≡ k → ⊥) → (i ≡ k + 1 → ⊥) → 2 ≤ i - k
    at-least i k past first second = elim (cases_lt i (k + 2)) [
      | inr far ↦ omega arith
      | inl near ↦ elim (cases_eq i k) [
        | inl one ↦ absurd (first one)
        | inr differ ↦ elim (cases_lt k i) [
          | inl less ↦ let two : i ≡ k + 1 = omega arith in
              absurd (second two)
          | inr more ↦ let one : i ≡ k = omega arith in absurd (first one)
        ]
      ]
    ]

-- a bit that is none of the six
unchanged : (tap i : ℕ) (labels front turned_front : List ℕ) (bits turned_bits : List Bool) → BothBegin labels front turned_front
    → Demodulates tap front bits → Demodulates tap turned_front turned_bits
    → i < length bits → i < length turned_bits → (i ≡ 0 → ⊥) → (i ≡ 1 → ⊥) → (i ≡ tap → ⊥) → (i ≡ tap + 1 → ⊥) → (i ≡ 23 → ⊥) → (i ≡ 24 → ⊥)
    → bit_at_place turned_bits i ≡ bit_at_place bits i
unchanged tap i labels front turned_front bits turned_bits h d e within turned_within a0 a1 b0 b1 c0 c1 =
    let same : (j : ℕ) → 2 ≤ j → j ≤ i → get_or (line_of turned_front) j false ≡ get_or (line_of front) j false =
    λ j some last. bits-alike j labels front turned_front h some (omega (arith, d.lengths)) (omega (arith, e.lengths)) in
    depends_on_three tap (line_of turned_front) (line_of front) turned_bits bits i i (omega (arith, e.lengths))
    (omega (arith, d.lengths)) e d
    (same-before i 0 (line_of turned_front) (line_of front) same a0 a1)
    (same-before i tap (line_of turned_front) (line_of front) same b0 b1)
    (same-before i 23 (line_of turned_front) (line_of front) same c0 c1)

few-differ : (tap i : ℕ) (labels front turned_front : List ℕ) (bits turned_bits : List Bool) → BothBegin labels front turned_front
    → Demodulates tap front bits → Demodulates tap turned_front turned_bits
    → i < length bits → i < length turned_bits → bit_at_place turned_bits i ≢ bit_at_place bits i → IsOfFirstTwo tap i
few-differ tap i labels front turned_front bits turned_bits begins d e within turned_within differ =
    decided (cases_eq i 0) (cases_eq i 1) (cases_eq i tap) (cases_eq i (tap + 1)) (cases_eq i 23) (cases_eq i 24)
  where
    decided : (i ≡ 0) ⊎ (i ≡ 0 → ⊥) → (i ≡ 1) ⊎ (i ≡ 1 → ⊥) → (i ≡ tap) ⊎ (i ≡ tap → ⊥) → (i ≡ tap + 1) ⊎ (i ≡ tap + 1 → ⊥) → (i ≡ 23)
        ⊎ (i ≡ 23 → ⊥) → (i ≡ 24) ⊎ (i ≡ 24 → ⊥) → IsOfFirstTwo tap i
    decided (inl a0) a1 b0 b1 c0 c1 = inl a0
    decided (inr a0) (inl a1) b0 b1 c0 c1 = inr (inl a1)
    decided (inr a0) (inr a1) (inl b0) b1 c0 c1 = inr (inr (inl b0))
    decided (inr a0) (inr a1) (inr b0) (inl b1) c0 c1 = inr (inr (inr (inl b1)))
    decided (inr a0) (inr a1) (inr b0) (inr b1) (inl c0) c1 = inr (inr (inr (inr (inl c0))))
    decided (inr a0) (inr a1) (inr b0) (inr b1) (inr c0) (inl c1) = inr (inr (inr (inr (inr c1))))
    decided (inr a0) (inr a1) (inr b0) (inr b1) (inr c0) (inr c1) =
        absurd (differ (unchanged tap i labels front turned_front bits turned_bits begins d e within turned_within a0 a1 b0 b1 c0 c1))

pub few-bits-differ : FewBitsDiffer
few-bits-differ start low tap i labels front turned_front samples bits turned_bits h r d e within turned_within differ =
    few-differ tap i labels front turned_front bits turned_bits
    (begin-from_one start labels front turned_front samples low h r) d e within turned_within differ

pub few-bits-differ_of_any : FewBitsDifferOfAny
few-bits-differ_of_any tap i labels front turned_front samples bits turned_bits h r d e within turned_within differ =
    few-differ tap i labels front turned_front bits turned_bits
    (begin-from_any labels front turned_front samples h r) d e within turned_within differ
