-- The answer at each bit, as a relation and as a function.
use Rattle.detection.proofs.Names.{◌≡◌, ℕ, zero, suc, ◌+◌, ◌-◌, ◌<◌, inl, inr, Bool, true, false, ◌||◌, if◌then◌else◌, List, ◌++◌, length}
use Rattle.detection.proofs.Names.{get_or, take, drop, reverse, Option, Some, None, arith, length-append, refl, sym, ◌∙◌, ap, false≢true}
use Rattle.detection.proofs.Names.{cases_lt, take-append-drop, beq, ends_with, same_bits, twice, EndsPattern, IsGap, IsSeen, Seen, Odp, Adp}
use Rattle.std.proofs.lemmas.Bool.{or_left, or_right}
use Rattle.std.proofs.lemmas.List.{drop_at}
use Rattle.detection.specs.Patterns.{some_below, some_gap, ends_pattern, seen_at}
use Rattle.detection.proofs.Readings.{backwards, reverse-twice}
use Rattle.bit_stuffing.proofs.EndsWith.{bits-same}

-- a test of the last bits

ends-text : (bits text : List Bool) → ends_with beq bits text ≡ true → bits ≡ take (length bits - length text) bits ++ text
ends-text bits text e =
    sym (take-append-drop (length bits - length text) bits)
    ∙ ap (λ l. take (length bits - length text) bits ++ l) (sym (same_bits text (drop (length bits - length text) bits) e))

pub text-ends : (bits before text : List Bool) → bits ≡ before ++ text → ends_with beq bits text ≡ true
text-ends bits before text e = grind (arith, length-append, drop_at, bits-same)

-- a test of some numbers

either : (a b : Bool) → (a || b) ≡ true → (P : Type 0) → (a ≡ true → P) → (b ≡ true → P) → P
either true b e P f g = f refl
either false b e P f g = g e

below-found : (n : ℕ) (test : ℕ → Bool) → some_below n test ≡ true → (i : ℕ) × (i < n) × (test i ≡ true)
below-found zero test e = absurd (false≢true e)
below-found (suc n) test e = either (test n) (some_below n test) e ((i : ℕ) × (i < suc n) × (test i ≡ true))
    (λ here. (n, omega arith, here))
    (λ lower. let r = below-found n test lower in (r.0, omega (arith, r.1), r.2))

below-at : (n : ℕ) (test : ℕ → Bool) (i : ℕ) → i < n → test i ≡ true → some_below n test ≡ true
below-at zero test i h e = absurd (omega arith)
below-at (suc n) test i h e = elim (cases_lt i n) [
  | inl lower ↦ or_right (test n) (some_below n test) (below-at n test i lower e)
  | inr here ↦ let same : i ≡ n = omega arith in or_left (test n) (some_below n test) (ap test (sym same) ∙ e)
]

gap-found : (test : ℕ → Bool) → some_gap test ≡ true → (gap : ℕ) × IsGap gap × (test gap ≡ true)
gap-found test e = let r = below-found 10 (λ more. test (8 + more)) e in
    (8 + r.0, record { low = omega arith; high = omega (arith, r.1) }, r.2)

gap-at : (test : ℕ → Bool) (gap : ℕ) → IsGap gap → test gap ≡ true → some_gap test ≡ true
gap-at test gap g e = grind (arith, below-at)

-- the test of a pattern

pub test-pattern : (seen : Seen) (bits : List Bool) → ends_pattern seen bits ≡ true → EndsPattern seen bits
test-pattern seen bits t =
    let a = gap-found (λ a. some_gap (λ b. some_gap (λ e. ends_with beq bits (twice seen a b e)))) t in
    let b = gap-found (λ b. some_gap (λ e. ends_with beq bits (twice seen a.0 b e))) a.2 in
    let e = gap-found (λ e. ends_with beq bits (twice seen a.0 b.0 e)) b.2 in
    record {
      before = take (length bits - length (twice seen a.0 b.0 e.0)) bits;
      a = a.0;
      b = b.0;
      e = e.0;
      a_gap = a.1;
      b_gap = b.1;
      e_gap = e.1;
      ends = ends-text bits (twice seen a.0 b.0 e.0) e.2;
    }

pub pattern-test : (seen : Seen) (bits : List Bool) → EndsPattern seen bits → ends_pattern seen bits ≡ true
pattern-test seen bits p =
    gap-at (λ a. some_gap (λ b. some_gap (λ e. ends_with beq bits (twice seen a b e)))) p.a p.a_gap
    (gap-at (λ b. some_gap (λ e. ends_with beq bits (twice seen p.a b e))) p.b p.b_gap
    (gap-at (λ e. ends_with beq bits (twice seen p.a p.b e)) p.e p.e_gap
    (text-ends bits p.before (twice seen p.a p.b p.e) p.ends)))

-- two patterns never end at one bit
not_both : (bits : List Bool) → EndsPattern Odp bits → EndsPattern Adp bits → ⊥
not_both bits x y =
    let same : backwards Odp x.a x.b x.e (reverse x.before) ≡ backwards Adp y.a y.b y.e (reverse y.before) =
    sym (reverse-twice Odp x.a x.b x.e x.before) ∙ ap reverse (sym x.ends ∙ y.ends) ∙ reverse-twice Adp y.a y.b y.e y.before in
    false≢true (sym (ap (λ l. get_or l 8 true) same))

pub kind-once : (bits : List Bool) (one other : Seen) → EndsPattern one bits → EndsPattern other bits → one ≡ other
kind-once bits Odp Odp x y = refl
kind-once bits Odp Adp x y = absurd (not_both bits x y)
kind-once bits Adp Odp x y = absurd (not_both bits y x)
kind-once bits Adp Adp x y = refl

-- the function gives the answer

pub seen-is : (bits : List Bool) → IsSeen bits (seen_at bits)
unfolding seen_at
seen-is bits = each (ends_pattern Odp bits) (ends_pattern Adp bits) refl refl
  where
    each : (o a : Bool) → ends_pattern Odp bits ≡ o → ends_pattern Adp bits ≡ a
        → IsSeen bits (if o then Some Odp else (if a then Some Adp else None))
    each true a x y = test-pattern Odp bits x
    each false true x y = test-pattern Adp bits y
    each false false x y = none
      where
        none : (seen : Seen) → EndsPattern seen bits → ⊥
        none Odp p = false≢true (sym x ∙ pattern-test Odp bits p)
        none Adp p = false≢true (sym y ∙ pattern-test Adp bits p)

same_answer : (bits : List Bool) (one other : Option Seen) → IsSeen bits one → IsSeen bits other → one ≡ other
same_answer bits None None x y = refl
same_answer bits None (Some seen) x y = absurd (x seen y)
same_answer bits (Some seen) None x y = absurd (y seen x)
same_answer bits (Some one) (Some other) x y = ap Some (kind-once bits one other x y)

pub seen-once : (bits : List Bool) (answer : Option Seen) → IsSeen bits answer → answer ≡ seen_at bits
seen-once bits answer h = same_answer bits answer (seen_at bits) h (seen-is bits)

pub seen-none : (bits : List Bool) → (EndsPattern Odp bits → ⊥) → (EndsPattern Adp bits → ⊥) → IsSeen bits None
seen-none bits odp adp q3 p = grind (arith)
