-- A code of 80 states in a circle and 80 labels, each of which leads as many states on. The tests try a code of more than 64 states at it.
-- Nothing else speaks of it.
use Rattle.std.proofs.Common.{◌≡◌, ℕ, ◌+◌, ◌-◌, ◌*◌, ◌%◌, ◌<◌, Bool, true, false, ◌&&◌, if◌then◌else◌, nat_eq, nat_lt, [], ◌∷◌, Option, Some, None, inl, inr, refl, sym, ◌∙◌, ap, arith}
use Rattle.std.proofs.lemmas.Bool.{ltb-true, lt-ltb, and_parts, and_from, cases_eq}
use Rattle.std.proofs.lemmas.Bool.Decides.{nat_tests}
use Rattle.std.specs.Prelude.{pos, unsigned_abs}
use Rattle.symbol_map.specs.declared.sample.Sample.{Sample}
use Rattle.trellis_tables.specs.Codes.{IsBounded, StaysWithin, EntersOnce, Reaches, AreWays, AreAllWays, PointsDiffer}

abbrev pub laps_next : ℕ → ℕ → Option ℕ
laps_next state label = if nat_lt state 80 && nat_lt label 80 then Some ((state + label) % 80) else None

some_if : (b : Bool) (n to : ℕ) → (if b then Some n else None) ≡ Some to → (b ≡ true) × (n ≡ to)
some_if true n to h = (refl, cc)
some_if false n to h = absurd cc

if_true : (b : Bool) (n to : ℕ) → b ≡ true → n ≡ to → (if b then Some n else None) ≡ Some to
if_true true n to e f = ap Some f
if_true false n to e f = absurd cc

pub laps_bounded : IsBounded laps_next 80 80
laps_bounded s label to e =
    let a = and_parts (nat_lt s 80) (nat_lt label 80) (some_if (nat_lt s 80 && nat_lt label 80) ((s + label) % 80) to e).0 in
    (ltb-true s 80 a.0, ltb-true label 80 a.1)

-- the state that a label leads to
leads_there : (s label to : ℕ) → laps_next s label ≡ Some to → (s + label) % 80 ≡ to
leads_there s label to e = (some_if (nat_lt s 80 && nat_lt label 80) ((s + label) % 80) to e).1

leads-if : (s label to : ℕ) → s < 80 → label < 80 → (s + label) % 80 ≡ to → laps_next s label ≡ Some to
leads-if s label to in_states in_labels e =
    if_true (nat_lt s 80 && nat_lt label 80) ((s + label) % 80) to
    (and_from (nat_lt s 80) (nat_lt label 80) (lt-ltb s 80 in_states) (lt-ltb label 80 in_labels)) e

pub laps_within : StaysWithin laps_next 80 80
laps_within s label to in_states in_labels e = omega (arith, leads_there s label to e)

pub laps_enters_once : EntersOnce laps_next 80 80
laps_enters_once s t label to in_s in_t in_labels e f = omega (arith, leads_there s label to e, leads_there t label to f)

pub laps_reaches : Reaches laps_next 80 80 1
laps_reaches from to in_from in_to =
    let low : (to + 80 - from) % 80 < 80 = omega arith in
    let there : (from + (to + 80 - from) % 80) % 80 ≡ to = omega arith in
    ((to + 80 - from) % 80 ∷ [], refl, (to, leads-if from ((to + 80 - from) % 80) to in_from low there, refl))

-- the ways into a state: one for each label
abbrev pub laps_before : ℕ → ℕ → ℕ
laps_before to place = (to + 80 - place) % 80

abbrev pub laps_subset : ℕ → ℕ → ℕ
laps_subset to place = place

pub laps_ways_within : (to place : ℕ) → to < 80 → place < 80 → (laps_before to place < 80) × (laps_subset to place < 80)
laps_ways_within to place in_states in_ways = (omega arith, in_ways)

pub laps_ways_lead : AreWays laps_next 80 80 1 laps_before laps_subset
laps_ways_lead to place i in_states in_ways in_subset =
    let low : (to + 80 - place) % 80 < 80 = omega arith in
    let label : 1 * place + i < 80 = omega arith in
    let there : ((to + 80 - place) % 80 + (1 * place + i)) % 80 ≡ to = omega arith in
    leads-if ((to + 80 - place) % 80) (1 * place + i) to low label there

pub laps_ways_all : AreAllWays laps_next 80 1 laps_before laps_subset
laps_ways_all s label to e =
    let in_table = laps_bounded s label to e in
    let there = leads_there s label to e in
    let same : (to + 80 - label) % 80 ≡ s = omega (arith, in_table.0, in_table.1) in
    (label, 0, in_table.1, omega arith, same, omega arith)

-- a point on the right
abbrev pub in_row : ℕ → Sample
in_row place = record { re = pos place; im = pos 0 }

-- a point for each label in a row, and one far from them for the last label
abbrev pub laps_point : ℕ → Sample
laps_point label = if nat_eq label 79 then in_row 10000 else in_row label

point-last : (label : ℕ) → label ≡ 79 → laps_point label ≡ in_row 10000
point-last label e = let yes : nat_eq label 79 ≡ true = grind (arith, nat_tests) in rw yes refl

point-other : (label : ℕ) → (label ≡ 79 → ⊥) → laps_point label ≡ in_row label
point-other label n = let no : nat_eq label 79 ≡ false = grind (arith, nat_tests) in rw no refl

same-place : (a b : ℕ) → in_row a ≡ in_row b → a ≡ b
same-place a b e = ap (λ p. unsigned_abs p.re) e

pub laps_differ : PointsDiffer laps_point 80
laps_differ a b in_a in_b e = elim (cases_eq a 79) [
  | inl p ↦ elim (cases_eq b 79) [
    | inl q ↦ omega (arith, p, q)
    | inr q ↦ absurd (apart b in_b (same-place 10000 b (sym (point-last a p) ∙ e ∙ point-other b q)))
  ]
  | inr p ↦ elim (cases_eq b 79) [
    | inl q ↦ absurd (apart a in_a (sym (same-place a 10000 (sym (point-other a p) ∙ e ∙ point-last b q))))
    | inr q ↦ same-place a b (sym (point-other a p) ∙ e ∙ point-other b q)
  ]
]
  where
    apart : (n : ℕ) → n < 80 → 10000 ≡ n → ⊥
    apart n l e = omega arith
