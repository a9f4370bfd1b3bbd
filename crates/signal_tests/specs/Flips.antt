-- A code of two states and two labels, one of which changes the state: from each state each list of labels is a sequence. The tests
-- try decoders that start in any state at it. Nothing else speaks of it.
use Rattle.std.proofs.Common.{◌≡◌, ℕ, ◌+◌, ◌*◌, ◌%◌, ◌<◌, Bool, true, false, ◌&&◌, if◌then◌else◌, nat_eq, nat_lt, [], ◌∷◌, inl, inr, Option, Some, None, refl, sym, ◌∙◌, ap, arith}
use Rattle.std.proofs.lemmas.Bool.{ltb-true, lt-ltb, and_parts, and_from, cases_eq, cases_lt}
use Rattle.std.specs.Prelude.{pos, neg_ℤ, ◌-ℤ◌, unsigned_abs}
use Rattle.symbol_map.specs.declared.sample.Sample.{Sample}
use Rattle.trellis_tables.specs.Codes.{IsBounded, StaysWithin, EntersOnce, Reaches, AreWays, AreAllWays, PointsDiffer}

abbrev pub flips_next : ℕ → ℕ → Option ℕ
flips_next state label = if nat_lt state 2 && nat_lt label 2 then Some ((state + label) % 2) else None

abbrev pub flips_point : ℕ → Sample
flips_point label = if nat_eq label 0 then record { re = neg_ℤ (pos 1000); im = pos 0 } else record { re = pos 1000; im = pos 0 }

some_if : (b : Bool) (n to : ℕ) → (if b then Some n else None) ≡ Some to → (b ≡ true) × (n ≡ to)
some_if true n to h = (refl, cc)
some_if false n to h = absurd cc

if_true : (b : Bool) (n to : ℕ) → b ≡ true → n ≡ to → (if b then Some n else None) ≡ Some to
if_true true n to e f = ap Some f
if_true false n to e f = absurd cc

pub flips_bounded : IsBounded flips_next 2 2
flips_bounded s label to e =
    let a = and_parts (nat_lt s 2) (nat_lt label 2) (some_if (nat_lt s 2 && nat_lt label 2) ((s + label) % 2) to e).0 in
    (ltb-true s 2 a.0, ltb-true label 2 a.1)

-- the state that a label leads to
leads_there : (s label to : ℕ) → flips_next s label ≡ Some to → (s + label) % 2 ≡ to
leads_there s label to e = (some_if (nat_lt s 2 && nat_lt label 2) ((s + label) % 2) to e).1

leads-if : (s label to : ℕ) → s < 2 → label < 2 → (s + label) % 2 ≡ to → flips_next s label ≡ Some to
leads-if s label to in_states in_labels e =
    if_true (nat_lt s 2 && nat_lt label 2) ((s + label) % 2) to
    (and_from (nat_lt s 2) (nat_lt label 2) (lt-ltb s 2 in_states) (lt-ltb label 2 in_labels)) e

pub flips_within : StaysWithin flips_next 2 2
flips_within s label to in_states in_labels e = omega (arith, leads_there s label to e)

pub flips_enters_once : EntersOnce flips_next 2 2
flips_enters_once s t label to in_s in_t in_labels e f = omega (arith, leads_there s label to e, leads_there t label to f)

pub flips_reaches : Reaches flips_next 2 2 1
flips_reaches from to in_from in_to =
    let low : (from + to) % 2 < 2 = omega arith in
    let there : (from + (from + to) % 2) % 2 ≡ to = omega arith in
    ((from + to) % 2 ∷ [], refl, (to, leads-if from ((from + to) % 2) to in_from low there, refl))

-- the ways into a state: one for each label
abbrev pub flips_before : ℕ → ℕ → ℕ
flips_before to place = (to + place) % 2

abbrev pub flips_subset : ℕ → ℕ → ℕ
flips_subset to place = place

pub flips_ways_within : (to place : ℕ) → to < 2 → place < 2 → (flips_before to place < 2) × (flips_subset to place < 2)
flips_ways_within to place in_states in_ways = (omega arith, in_ways)

pub flips_ways_lead : AreWays flips_next 2 2 1 flips_before flips_subset
flips_ways_lead to place i in_states in_ways in_subset =
    let low : (to + place) % 2 < 2 = omega arith in
    let label : 1 * place + i < 2 = omega arith in
    let there : ((to + place) % 2 + (1 * place + i)) % 2 ≡ to = omega arith in
    leads-if ((to + place) % 2) (1 * place + i) to low label there

pub flips_ways_all : AreAllWays flips_next 2 1 flips_before flips_subset
flips_ways_all s label to e =
    let in_table = flips_bounded s label to e in
    let there = leads_there s label to e in
    let same : (to + label) % 2 ≡ s = omega (arith, in_table.0, in_table.1) in
    (label, 0, in_table.1, omega arith, same, omega arith)

pub flips_differ : PointsDiffer flips_point 2
flips_differ a b in_a in_b e = elim (cases_eq a b) [
  | inl same ↦ same
  | inr differ ↦ elim (cases_eq a 0) [
    | inl first ↦ let other : b ≡ 1 = omega (arith, between b in_b (λ same. differ (first ∙ sym same))) in
        absurd (apart (rw (first, other) at e))
    | inr second ↦ let one : a ≡ 1 = omega (arith, between a in_a second) in let other : b ≡ 0 =
        elim (cases_eq b 0) [ inl z ↦ z | inr o ↦ absurd (differ (one ∙ sym (between b in_b o))) ] in
        absurd (apart (sym (rw (one, other) at e)))
  ]
]
  where
    between : (n : ℕ) → n < 2 → (n ≡ 0 → ⊥) → n ≡ 1
    between n low some = elim (cases_eq n 0) [
      | inl z ↦ absurd (some z)
      | inr o ↦ elim (cases_lt n 1) [
        | inl l ↦ let z : n ≡ 0 =
            omega arith in absurd (some z)
        | inr l ↦ omega arith
      ]
    ]

    differs : (m n : ℕ) → m ≡ 2000 → n ≡ 0 → m ≡ n → ⊥
    differs m n e f g = omega arith

    right_of : Sample → ℕ
    right_of p = unsigned_abs (p.re -ℤ pos 1000)

    apart : flips_point 0 ≡ flips_point 1 → ⊥
    apart q = differs (right_of (flips_point 0)) (right_of (flips_point 1)) refl refl (ap right_of q)
