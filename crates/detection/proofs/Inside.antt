-- Where patterns end in a pattern slot.
use Rattle.detection.proofs.Names.{◌≡◌, inl, inr, ℕ, ◌+◌, ◌-◌, ◌*◌, ◌/◌, ◌%◌, ◌<◌, ◌≤◌, Bool, true, false, ◌||◌, if◌then◌else◌, nat_eq}
use Rattle.detection.proofs.Names.{List, ◌++◌, length, get_or, take, Option, Some, None, lit≤, arith, append_assoc, length-append, refl}
use Rattle.detection.proofs.Names.{sym, ◌∙◌, ap, cases_lt, false≢true, eqb-true, take-append-le, length-take-le, length-replicate}
use Rattle.detection.proofs.Names.{get_or-take, get_or-replicate, get_or-append_right, get_or-append-add, beq, pointwise, ends_with}
use Rattle.detection.proofs.Names.{same_bits, second, ones, twice, EndsPattern, IsGap, patterns, pattern_bits, each_below, at_each, Seen}
use Rattle.detection.proofs.Names.{Odp, Adp}
use Rattle.std.proofs.Common.{not, ◌&&◌}
use Rattle.std.proofs.Common.{nat_lt}
use Rattle.std.proofs.lemmas.Bool.{and_parts, le-ltb, ltb-true}
use Rattle.detection.specs.Sights.{sights_from}
use Rattle.detection.proofs.Answered.{text-ends}
use Rattle.detection.proofs.Written.{ones-append}
use Rattle.detection.proofs.Sightings.{ranged, ranged-quiet}
use Rattle.detection.proofs.Twice.{length-twice, length-second, before_last, twice-back}

-- the places of a pattern slot at which its pattern ends
abbrev pub is_end : ℕ → Bool
is_end p = nat_lt 70 p && (nat_lt p 360 && nat_eq (p % 36) 35)

abbrev pub own : Seen → ℕ → Option Seen
own kind p = if is_end p then Some kind else None

abbrev pub same_kind : Seen → Seen → Bool
same_kind Odp Odp = true
same_kind Odp Adp = false
same_kind Adp Odp = false
same_kind Adp Adp = true

-- Where the bits of a pattern slot end with a second character and eight ones, some bits from its start, a pattern ends, if it is not too
-- near the start.
abbrev pub place_test : Seen → Seen → ℕ → Bool
place_test kind seen p =
    not (ends_with beq (take p (patterns 10 kind ++ ones 8)) (second seen ++ ones 8)) || (nat_lt p 68 || (is_end p && same_kind kind seen))

all_places : (kind seen : Seen) → each_below 368 (place_test kind seen) ≡ true
all_places Odp Odp = refl
all_places Odp Adp = refl
all_places Adp Odp = refl
all_places Adp Adp = refl

-- the bits of a pattern slot

ten_long : (kind : Seen) → length (patterns 10 kind) ≡ 360
ten_long q0 = grind (arith)

pub length-pattern_bits : (size : ℕ) (kind : Seen) → 360 ≤ size → length (pattern_bits size kind) ≡ size
length-pattern_bits size kind h = grind (arith, ten_long, length-append, length-replicate)

ten-split : (kind : Seen) → patterns 10 kind ≡ take 351 (patterns 10 kind) ++ ones 9
ten-split Odp = refl
ten-split Adp = refl

-- ones from the last character's end on
last-ones : (size : ℕ) (kind : Seen) (i : ℕ) → 360 ≤ size → 351 ≤ i → i < size → get_or (pattern_bits size kind) i false ≡ true
last-ones size kind i long low high =
    let front : List Bool = take 351 (patterns 10 kind) in
    let joined : pattern_bits size kind ≡ front ++ ones (9 + (size - 360)) =
    ap (λ l. l ++ ones (size - 360)) (ten-split kind) ∙ append_assoc front (ones 9) (ones (size - 360))
    ∙ ap (λ l. front ++ l) (ones-append 9 (size - 360)) in
    ap (λ l. get_or l i false) joined
    ∙ get_or-append_right front (ones (9 + (size - 360))) 351 i false
    (length-take-le 351 (patterns 10 kind) (omega (arith, ten_long kind))) low
    ∙ get_or-replicate (9 + (size - 360)) (i - 351) true false (omega arith)

-- the first of them
first-part : (size : ℕ) (kind : Seen) (p : ℕ) → 368 ≤ size → p ≤ 368 → take p (pattern_bits size kind) ≡ take p (patterns 10 kind ++ ones 8)
first-part size kind p long h =
    let count : 8 + (size - 368) ≡ size - 360 = omega arith in
    let joined : pattern_bits size kind ≡ (patterns 10 kind ++ ones 8) ++ ones (size - 368) =
    ap (λ l. patterns 10 kind ++ l) (ap ones (sym count) ∙ sym (ones-append 8 (size - 368)))
    ∙ sym (append_assoc (patterns 10 kind) (ones 8) (ones (size - 368))) in
    ap (take p) joined ∙ take-append-le p (patterns 10 kind ++ ones 8) (ones (size - 368))
    (omega (arith, ten_long kind, length-append {A = Bool} (patterns 10 kind) (ones 8)))

-- a pattern that ends in them is the slot's, and ends at one of its places

second-zero : (seen : Seen) → get_or (second seen ++ ones 8) 0 false ≡ false
second-zero q0 = grind (arith)

kinds : (kind seen : Seen) → same_kind kind seen ≡ true → kind ≡ seen
kinds q0 q1 e = grind (arith)

rest_of : (a b c : Bool) → (not a || (b || c)) ≡ true → a ≡ true → b ≡ false → c ≡ true
rest_of q0 b c e x y = grind (arith)

pub placed : (size : ℕ) (kind seen : Seen) (p : ℕ) → 552 < size → p ≤ size → EndsPattern seen (take p (pattern_bits size kind))
    → (is_end p ≡ true) × (kind ≡ seen)
placed size kind seen p long high x = elim (cases_lt p 368) [ inl early ↦ in_patterns early | inr late ↦ absurd (behind late) ]
  where
    wide : length (take p (pattern_bits size kind)) ≡ p
    wide = length-take-le p (pattern_bits size kind) (omega (arith, high, length-pattern_bits size kind (omega arith)))

    many : 68 ≤ p
    many = omega (
      arith,
      wide,
      ap length x.ends,
      length-append {A = Bool} x.before (twice seen x.a x.b x.e),
      length-twice seen x.a x.b x.e,
      x.a_gap.low,
      x.b_gap.low,
      x.e_gap.low,
    )

    split : take p (pattern_bits size kind) ≡ (x.before ++ before_last seen x.a x.b x.e) ++ (second seen ++ ones 8)
    split = x.ends ∙ ap (λ l. x.before ++ l) (twice-back seen x.a x.b x.e)
        ∙ sym (append_assoc x.before (before_last seen x.a x.b x.e) (second seen ++ ones 8))

    in_patterns : p < 368 → (is_end p ≡ true) × (kind ≡ seen)
    in_patterns early =
        let ends = text-ends (take p (patterns 10 kind ++ ones 8)) (x.before ++ before_last seen x.a x.b x.e) (second seen ++ ones 8)
        (sym (first-part size kind p (omega arith) (omega arith)) ∙ split) in
        let r = and_parts (is_end p) (same_kind kind seen)
        (rest_of (ends_with beq (take p (patterns 10 kind ++ ones 8)) (second seen ++ ones 8)) (nat_lt p 68)
        (is_end p && same_kind kind seen) (at_each 368 (place_test kind seen) (all_places kind seen) p early) ends
        (le-ltb p 68 many)) in
        (r.0, kinds kind seen r.1)

    behind : 368 ≤ p → ⊥
    behind late =
        let front : List Bool = x.before ++ before_last seen x.a x.b x.e in
        let place : length front + 0 ≡ p - 17 =
        omega (
          arith,
          wide,
          ap length split,
          length-append {A = Bool} front (second seen ++ ones 8),
          length-append {A = Bool} (second seen) (ones 8),
          length-second seen,
        ) in
        let zero_there : get_or (take p (pattern_bits size kind)) (p - 17) false ≡ false =
        ap (λ l. get_or l (p - 17) false) split ∙ ap (λ i. get_or (front ++ (second seen ++ ones 8)) i false) (sym place)
        ∙ get_or-append-add front (second seen ++ ones 8) 0 false ∙ second-zero seen in
        let one_there : get_or (take p (pattern_bits size kind)) (p - 17) false ≡ true =
        get_or-take p (pattern_bits size kind) (p - 17) false (omega arith)
        ∙ last-ones size kind (p - 17) (omega arith) (omega arith) (omega arith) in
        false≢true (sym zero_there ∙ one_there)

-- and its pattern ends at each of them

exact_test : (kind : Seen)
    → each_below 9 (λ k. pointwise beq (take (71 + 36 * k) (patterns 10 kind)) (patterns k kind ++ twice kind 9 9 9)) ≡ true
exact_test Odp = refl
exact_test Adp = refl

pub ends-there : (size : ℕ) (kind : Seen) (k : ℕ) → k < 9 → EndsPattern kind (take (71 + 36 * k) (pattern_bits size kind))
ends-there size kind k low = record { before = patterns k kind; a = 9; b = 9; e = 9; a_gap = nine; b_gap = nine; e_gap = nine; ends = ends }
  where
    nine : IsGap 9
    nine = record { low = lit≤ tt; high = lit≤ tt }

    ends : take (71 + 36 * k) (pattern_bits size kind) ≡ patterns k kind ++ twice kind 9 9 9
    ends =
        take-append-le (71 + 36 * k) (patterns 10 kind) (ones (size - 360)) (omega (arith, ten_long kind))
        ∙ same_bits (take (71 + 36 * k) (patterns 10 kind)) (patterns k kind ++ twice kind 9 9 9)
        (at_each 9 (λ k. pointwise beq (take (71 + 36 * k) (patterns 10 kind)) (patterns k kind ++ twice kind 9 9 9))
        (exact_test kind) k low)

pub end-place : (p : ℕ) → is_end p ≡ true → (k : ℕ) × (k < 9) × (p ≡ 71 + 36 * k)
end-place p e =
    let r = and_parts (nat_lt 70 p) (nat_lt p 360 && nat_eq (p % 36) 35) e in
    let s = and_parts (nat_lt p 360) (nat_eq (p % 36) 35) r.1 in
    let low : 70 < p = ltb-true 70 p r.0 in
    let high : p < 360 = ltb-true p 360 s.0 in
    let rem : p % 36 ≡ 35 = eqb-true (p % 36) 35 s.1 in
    ((p - 71) / 36, omega arith, omega arith)

-- as a list

own-late : (kind : Seen) (p : ℕ) → 368 < p → own kind p ≡ None
own-late kind p h = grind (arith, le-ltb)

nine-sights : (start : ℕ) (kind : Seen) → ranged (own kind) start 368 ≡ sights_from 9 start 71 kind
nine-sights start q1 = grind (arith)

pub own-sights : (start size : ℕ) (kind : Seen) → 368 ≤ size → ranged (own kind) start size ≡ sights_from 9 start 71 kind
own-sights start size kind h =
    let e : 368 + (size - 368) ≡ size = omega arith in
    ap (ranged (own kind) start) (sym e) ∙ ranged-quiet (own kind) start 368 (size - 368) (own-late kind) ∙ nine-sights start kind
