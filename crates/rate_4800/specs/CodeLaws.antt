-- The laws of a trellis code for the code of four points.
use Rattle.std.proofs.Common.{◌≡◌, ℕ, ◌+◌, ◌*◌, ◌<◌, ◌≤◌, Bool, true, false, ◌&&◌, ◌||◌, if◌then◌else◌, nat_eq, nat_lt, List, [], ◌∷◌, length, inl, inr, ap, Some, None, refl, subst, arith}
use Rattle.std.specs.Prelude.{nat_le}
use Rattle.std.proofs.lemmas.Bool.{lt-ltb, ltb-true, leb-true, eqb-true, and_parts, or_cases}
use Rattle.symbol_map.specs.Finite.{each_below, at_each_pair}
use Rattle.symbol_map.specs.Distance.{distance_of}
use Rattle.symbol_map.proofs.Distances.{no_distance_from_equal}
use Rattle.trellis_tables.specs.Sequences.{Leads}
use Rattle.trellis_tables.specs.Codes.{IsBounded, StaysWithin, EntersOnce, Reaches, AreWays, AreAllWays, PointsDiffer}
use Rattle.rate_4800.specs.Code.{next_state, point_of, way_before, way_subset}

pub some_if : (b : Bool) (n to : ℕ) → (if b then Some n else None) ≡ Some to → (b ≡ true) × (n ≡ to)
some_if true n to h = (refl, cc)
some_if false n to h = absurd cc

pub bounded : IsBounded next_state 1 4
bounded s label to e =
    let a = and_parts (nat_lt s 1) (nat_lt label 4) (some_if (nat_lt s 1 && nat_lt label 4) 0 to e).0 in
    (ltb-true s 1 a.0, ltb-true label 4 a.1)

pub within : StaysWithin next_state 1 4
within s label to in_states in_labels e = let zero_is = (some_if (nat_lt s 1 && nat_lt label 4) 0 to e).1 in omega arith

pub enters_once : EntersOnce next_state 1 4
enters_once s t label to in_s in_t in_labels e f = omega arith

pub reaches : Reaches next_state 1 4 1
reaches from to in_from in_to =
    let a : 0 ≡ from = omega arith in
    let b : 0 ≡ to = omega arith in
    subst (λ s. (path : List ℕ) × (length path ≡ 1) × Leads next_state s path to) a
    (subst (λ s. (path : List ℕ) × (length path ≡ 1) × Leads next_state 0 path s) b (0 ∷ [], refl, (0, refl, refl)))

pub ways_within : (to place : ℕ) → to < 1 → place < 4 → (way_before to place < 1) × (way_subset to place < 4)
ways_within to place in_states in_ways = (omega arith, in_ways)

pub ways_lead : AreWays next_state 1 4 1 way_before way_subset
ways_lead to place i in_states in_ways in_subset =
    let zero_is : 0 ≡ to = omega arith in
    let label : 1 * place + i ≡ place = omega arith in
    rw (label, lt-ltb place 4 in_ways) (ap Some zero_is)

pub ways_all : AreAllWays next_state 4 1 way_before way_subset
ways_all s label to e =
    let in_table = bounded s label to e in
    (label, 0, in_table.1, omega arith, omega arith, omega arith)

-- points of different labels lie at least 83886080 apart, by the square of their distance: 20 in units of the map
abbrev apart : ℕ → ℕ → Bool
apart a b = nat_eq a b || nat_le 83886080 (distance_of (point_of a) (point_of b))

apart_test : each_below 4 (λ a. each_below 4 (apart a)) ≡ true
apart_test = refl

pub points_lie_apart : (a b : ℕ) → a < 4 → b < 4 → (a ≡ b → ⊥) → 83886080 ≤ distance_of (point_of a) (point_of b)
points_lie_apart a b in_a in_b differ =
    elim (or_cases (nat_eq a b) (nat_le 83886080 (distance_of (point_of a) (point_of b)))
    (at_each_pair 4 4 apart apart_test a b in_a in_b)) [
      | inl same ↦ absurd (differ (eqb-true a b same))
      | inr far ↦ leb-true 83886080 (distance_of (point_of a) (point_of b)) far
    ]

pub points_differ : PointsDiffer point_of 4
points_differ a b in_a in_b e =
    elim (or_cases (nat_eq a b) (nat_le 83886080 (distance_of (point_of a) (point_of b)))
    (at_each_pair 4 4 apart apart_test a b in_a in_b)) [
      | inl same ↦ eqb-true a b same
      | inr far ↦ let none : distance_of (point_of a) (point_of b) ≡ 0 = no_distance_from_equal (point_of a) (point_of b) e in
          let least : 83886080 ≤ distance_of (point_of a) (point_of b) = leb-true 83886080 (distance_of (point_of a) (point_of b)) far in
          absurd (omega (none, least, arith))
    ]
