-- Patterns, read from their end.
use Rattle.detection.proofs.Names.{◌≡◌, ℕ, zero, suc, ◌+◌, ◌-◌, ◌≤◌, Bool, true, false, List, [], ◌∷◌, ◌++◌, reverse, Option, Some, None}
use Rattle.detection.proofs.Names.{lit≤, arith, append_assoc, refl, sym, ◌∙◌, ap, subst, false≢true, reverse-append}
use Rattle.detection.proofs.Names.{replicate-append-replicate, first, second, ones, twice, EndsPattern, IsGap, Holds, EndsCharacter}
use Rattle.detection.proofs.Names.{LeftBehind, LeftBehindOnce, Seen, Odp, Adp}
use Rattle.std.specs.Bool.{IsTrue}
use Rattle.std.specs.Option.{is_some}
use Rattle.std.proofs.lemmas.List.{reverse-reverse, append_cancel_left}
use Rattle.detection.specs.Reader.{EndsOnce}

-- the ones at the head
abbrev pub leading : List Bool → ℕ
leading [] = 0
leading (true ∷ bits) = suc (leading bits)
leading (false ∷ bits) = 0

leading-ones : (gap : ℕ) (bits : List Bool) → leading (ones gap ++ bits) ≡ gap + leading bits
leading-ones zero bits = let e : 0 + leading bits ≡ leading bits = omega arith in sym e
leading-ones (suc gap) bits = omega (arith, leading-ones gap bits)

-- how many ones a character ends with
abbrev pub inner_first : Seen → ℕ
inner_first Odp = 0
inner_first Adp = 0

abbrev pub inner_second : Seen → ℕ
inner_second Odp = 1
inner_second Adp = 0

leading-first : (seen : Seen) (rest : List Bool) → leading (reverse (first seen) ++ rest) ≡ inner_first seen
leading-first q0 rest = grind (arith)

leading-second : (seen : Seen) (rest : List Bool) → leading (reverse (second seen) ++ rest) ≡ inner_second seen
leading-second q0 rest = grind (arith)

-- a character can be read in one way only
character-once : (character : List Bool) (inner most most_other : ℕ) (recent rest other : List Bool)
    → ((l : List Bool) → leading (character ++ l) ≡ inner)
    → (x : EndsCharacter character most recent rest) (y : EndsCharacter character most_other recent other)
    → (x.gap ≡ y.gap) × (rest ≡ other)
character-once character inner most most_other recent rest other lead x y =
    (gaps, append_cancel_left character rest other (append_cancel_left (ones x.gap) (character ++ rest) (character ++ other) same))
  where
    gaps : x.gap ≡ y.gap
    gaps = omega (
      arith,
      ap leading (sym x.ends ∙ y.ends),
      leading-ones x.gap (character ++ rest),
      leading-ones y.gap (character ++ other),
      lead rest,
      lead other,
    )

    same : ones x.gap ++ (character ++ rest) ≡ ones x.gap ++ (character ++ other)
    same = sym x.ends ∙ y.ends ∙ ap (λ g. ones g ++ (character ++ other)) (sym gaps)

pub second-once : (seen : Seen) (most most_other : ℕ) (recent rest other : List Bool)
    (x : EndsCharacter (reverse (second seen)) most recent rest) (y : EndsCharacter (reverse (second seen)) most_other recent other)
    → (x.gap ≡ y.gap) × (rest ≡ other)
second-once seen most most_other recent rest other x y =
    character-once (reverse (second seen)) (inner_second seen) most most_other recent rest other (leading-second seen) x y

pub first-once : (seen : Seen) (most most_other : ℕ) (recent rest other : List Bool)
    (x : EndsCharacter (reverse (first seen)) most recent rest) (y : EndsCharacter (reverse (first seen)) most_other recent other)
    → (x.gap ≡ y.gap) × (rest ≡ other)
first-once seen most most_other recent rest other x y =
    character-once (reverse (first seen)) (inner_first seen) most most_other recent rest other (leading-first seen) x y

pub pattern-once : (seen : Seen) (most : ℕ) (recent rest other : List Bool) → EndsOnce seen most recent rest
    → EndsOnce seen most recent other → rest ≡ other
pattern-once seen most recent rest other x y =
    let middle = second-once seen most most recent x.middle y.middle x.later y.later in
    (first-once seen 17 17 x.middle rest other x.earlier
    (subst (λ m. EndsCharacter (reverse (first seen)) 17 m other) (sym middle.1) y.earlier)).1

-- two whole patterns from their end

reverse-ones : (n : ℕ) → reverse (ones n) ≡ ones n
reverse-ones zero = refl
reverse-ones (suc n) =
    let one_more : n + 1 ≡ suc n = omega arith in
    reverse-append (true ∷ []) (ones n) ∙ ap (λ l. l ++ true ∷ []) (reverse-ones n) ∙ replicate-append-replicate n 1 true ∙ ap ones one_more

abbrev pub backwards : Seen → ℕ → ℕ → ℕ → List Bool → List Bool
backwards seen a b e rest =
    ones 8 ++ (reverse (second seen)
    ++ (ones e ++ (reverse (first seen) ++ (ones b ++ (reverse (second seen) ++ (ones a ++ (reverse (first seen) ++ rest)))))))

reversed : (f n s m k t x : List Bool) → reverse (x ++ (((((((f ++ n) ++ s) ++ m) ++ f) ++ k) ++ s) ++ t))
    ≡ reverse t ++ (reverse s ++ (reverse k ++ (reverse f ++ (reverse m ++ (reverse s ++ (reverse n ++ (reverse f ++ reverse x)))))))
reversed f n s m k t x = simp (reverse-append, append_assoc) refl

pub reverse-twice : (seen : Seen) (a b e : ℕ) (before : List Bool)
    → reverse (before ++ twice seen a b e) ≡ backwards seen a b e (reverse before)
reverse-twice seen a b e before = grind (arith, reversed, reverse-ones)

pub pattern-chain : (seen : Seen) (bits : List Bool) → EndsPattern seen bits
    → (middle : List Bool) × (rest : List Bool) × EndsOnce seen 8 (reverse bits) middle × EndsOnce seen 17 middle rest
pattern-chain seen bits p = (
  ones p.b ++ (reverse (second seen) ++ (ones p.a ++ (reverse (first seen) ++ reverse p.before))),
  reverse p.before,
  record {
    middle = ones p.e ++ (reverse (first seen)
        ++ (ones p.b ++ (reverse (second seen) ++ (ones p.a ++ (reverse (first seen) ++ reverse p.before)))));
    later = record { gap = 8; low = omega arith; high = omega arith; ends = ap reverse p.ends ∙ reverse-twice seen p.a p.b p.e p.before };
    earlier = record { gap = p.e; low = p.e_gap.low; high = p.e_gap.high; ends = refl };
  },
  record {
    middle = ones p.a ++ (reverse (first seen) ++ reverse p.before);
    later = record { gap = p.b; low = p.b_gap.low; high = p.b_gap.high; ends = refl };
    earlier = record { gap = p.a; low = p.a_gap.low; high = p.a_gap.high; ends = refl };
  },
)

pub chain-pattern : (seen : Seen) (bits middle rest : List Bool) → EndsOnce seen 8 (reverse bits) middle → EndsOnce seen 17 middle rest
    → EndsPattern seen bits
chain-pattern seen bits middle rest x y = record {
  before = reverse rest;
  a = y.earlier.gap;
  b = y.later.gap;
  e = x.earlier.gap;
  a_gap = record { low = y.earlier.low; high = y.earlier.high };
  b_gap = record { low = y.later.low; high = y.later.high };
  e_gap = record { low = x.earlier.low; high = x.earlier.high };
  ends = sym (reverse-reverse bits) ∙ ap reverse all ∙ reverse-reverse (reverse rest ++ twice seen y.earlier.gap y.later.gap x.earlier.gap);
}
  where
    last : x.later.gap ≡ 8
    last = omega (arith, x.later.low, x.later.high)

    all : reverse bits ≡ reverse (reverse rest ++ twice seen y.earlier.gap y.later.gap x.earlier.gap)
    all = grind (arith, last, reverse-reverse, reverse-twice)

-- what the code answers

pub none-once : (width : ℕ) (seen : Seen) (most : ℕ) (recent : List Bool) → LeftBehind width (reverse (second seen)) most recent None
    → LeftBehindOnce width seen most recent None
none-once width seen most recent h = λ rest x. h x.middle x.later

pub some-once : (width : ℕ) (seen : Seen) (most left : ℕ) (recent : List Bool) (answer : Option ℕ) → most + 35 ≤ width
    → LeftBehind width (reverse (second seen)) most recent (Some left)
    → ((wide : ℕ) (middle : List Bool) → 26 ≤ wide → Holds wide left middle → LeftBehind wide (reverse (first seen)) 17 middle answer)
    → LeftBehindOnce width seen most recent answer
some-once width seen most left recent None fits h g = λ rest x.
    let same = second-once seen most most recent h.0 x.middle h.1 x.later in
    g (width - (most + 9)) h.0 (omega arith) h.2 rest (subst (λ m. EndsCharacter (reverse (first seen)) 17 m rest) (sym same.1) x.earlier)
some-once width seen most left recent (Some last) fits h g =
    let r = g (width - (most + 9)) h.0 (omega arith) h.2 in
    let room : width - (most + 9) - 26 ≡ width - (most + 35) = omega arith in
    (r.0, record { middle = h.0; later = h.1; earlier = r.1 }, subst (λ w. Holds w last r.0) room r.2)

-- whether two whole patterns are read
pub none-twice : (latest : ℕ) (seen : Seen) (bits : List Bool) → LeftBehindOnce 128 seen 8 (reverse bits) None → EndsPattern seen bits → ⊥
none-twice latest seen bits h p = let c = pattern-chain seen bits p in h c.0 c.2

pub some-twice : (seen : Seen) (left : ℕ) (bits : List Bool) (answer : Option ℕ) → LeftBehindOnce 128 seen 8 (reverse bits) (Some left)
    → ((wide : ℕ) (middle : List Bool) → 52 ≤ wide → Holds wide left middle → LeftBehindOnce wide seen 17 middle answer)
    → (IsTrue (is_some answer) → EndsPattern seen bits) × (EndsPattern seen bits → IsTrue (is_some answer))
some-twice seen left bits None h g = (
  λ t. absurd (false≢true t),
  λ p.
      let c = pattern-chain seen bits p in
      let same = pattern-once seen 8 (reverse bits) h.0 c.0 h.1 c.2 in
      absurd (g 85 h.0 (lit≤ tt) h.2 c.1 (subst (λ m. EndsOnce seen 17 m c.1) (sym same) c.3)),
)
some-twice seen left bits (Some last) h g = (
  λ t. let r = g 85 h.0 (lit≤ tt) h.2 in chain-pattern seen bits h.0 r.0 h.1 r.1,
  λ p. refl,
)

-- the gaps of two whole patterns

abbrev pub at_first : Seen → ℕ → List Bool → List Bool
at_first seen gap rest = ones gap ++ (reverse (first seen) ++ rest)

abbrev pub at_second : Seen → ℕ → List Bool → List Bool
at_second seen gap rest = ones gap ++ (reverse (second seen) ++ rest)

first-gap : (seen : Seen) (g h : ℕ) (rest other : List Bool) → IsGap g → IsGap h → at_first seen g rest ≡ at_first seen h other
    → (g ≡ h) × (rest ≡ other)
first-gap seen g h rest other g_in h_in same =
    first-once seen 17 17 (at_first seen g rest) rest other (record { gap = g; low = g_in.low; high = g_in.high; ends = refl })
    (record { gap = h; low = h_in.low; high = h_in.high; ends = same })

second-gap : (seen : Seen) (g h : ℕ) (rest other : List Bool) → IsGap g → IsGap h → at_second seen g rest ≡ at_second seen h other
    → (g ≡ h) × (rest ≡ other)
second-gap seen g h rest other g_in h_in same =
    second-once seen 17 17 (at_second seen g rest) rest other (record { gap = g; low = g_in.low; high = g_in.high; ends = refl })
    (record { gap = h; low = h_in.low; high = h_in.high; ends = same })

pub gaps-once : (seen : Seen) (bits : List Bool) (x y : EndsPattern seen bits) → (x.a ≡ y.a) × (x.b ≡ y.b) × (x.e ≡ y.e)
gaps-once seen bits x y =
    let eight : IsGap 8 = record { low = lit≤ tt; high = lit≤ tt } in
    let same : backwards seen x.a x.b x.e (reverse x.before) ≡ backwards seen y.a y.b y.e (reverse y.before) =
    sym (reverse-twice seen x.a x.b x.e x.before) ∙ ap reverse (sym x.ends ∙ y.ends) ∙ reverse-twice seen y.a y.b y.e y.before in
    let last = second-gap seen 8 8 (at_first seen x.e (at_second seen x.b (at_first seen x.a (reverse x.before))))
    (at_first seen y.e (at_second seen y.b (at_first seen y.a (reverse y.before)))) eight eight same in
    let third = first-gap seen x.e y.e (at_second seen x.b (at_first seen x.a (reverse x.before)))
    (at_second seen y.b (at_first seen y.a (reverse y.before))) x.e_gap y.e_gap last.1 in
    let next = second-gap seen x.b y.b (at_first seen x.a (reverse x.before))
    (at_first seen y.a (reverse y.before)) x.b_gap y.b_gap third.1 in
    let front = first-gap seen x.a y.a (reverse x.before) (reverse y.before) x.a_gap y.a_gap next.1 in (front.0, next.0, third.0)
