-- The bits of two whole patterns, by place.
use Rattle.detection.proofs.Names.{◌≡◌, ◌⊎◌, inl, inr, ℕ, ◌+◌, ◌-◌, ◌*◌, ◌<◌, ◌≤◌, Bool, true, false, List, [], ◌∷◌, ◌++◌, length, get_or}
use Rattle.detection.proofs.Names.{drop, arith, append_assoc, length-append, refl, sym, ◌∙◌, ap, length-replicate, get_or-replicate}
use Rattle.detection.proofs.Names.{get_or_append_left, get_or-append_right, first, second, ones, twice, Seen, Odp, Adp}

pub length-first : (seen : Seen) → length (first seen) ≡ 9
length-first q0 = grind (arith)

pub length-second : (seen : Seen) → length (second seen) ≡ 9
length-second Odp = refl
length-second Adp = refl

length-eight : (f n s m k t : List Bool)
    → length (((((((f ++ n) ++ s) ++ m) ++ f) ++ k) ++ s) ++ t) ≡ 2 * length f + 2 * length s + length n + length m + length k + length t
length-eight f n s m k t = omega (
  arith,
  length-append {A = Bool} ((((((f ++ n) ++ s) ++ m) ++ f) ++ k) ++ s) t,
  length-append {A = Bool} (((((f ++ n) ++ s) ++ m) ++ f) ++ k) s,
  length-append {A = Bool} ((((f ++ n) ++ s) ++ m) ++ f) k,
  length-append {A = Bool} (((f ++ n) ++ s) ++ m) f,
  length-append {A = Bool} ((f ++ n) ++ s) m,
  length-append {A = Bool} (f ++ n) s,
  length-append {A = Bool} f n,
)

pub length-twice : (seen : Seen) (a b e : ℕ) → length (twice seen a b e) ≡ 44 + a + b + e
length-twice seen a b e = omega (
  arith,
  length-eight (first seen) (ones a) (second seen) (ones b) (ones e) (ones 8),
  length-first seen,
  length-second seen,
  length-replicate {A = Bool} a true,
  length-replicate {A = Bool} b true,
  length-replicate {A = Bool} e true,
)

-- from the front

front-right : (f n s m k t : List Bool)
    → ((((((f ++ n) ++ s) ++ m) ++ f) ++ k) ++ s) ++ t ≡ f ++ (n ++ (s ++ (m ++ (f ++ (k ++ (s ++ t))))))
front-right f n s m k t = simp append_assoc refl

abbrev pub behind_second : Seen → ℕ → ℕ → List Bool
behind_second seen b e = ones b ++ (first seen ++ (ones e ++ (second seen ++ ones 8)))

twice-front : (seen : Seen) (a b e : ℕ) → twice seen a b e ≡ first seen ++ (ones a ++ (second seen ++ behind_second seen b e))
twice-front seen a b e = front-right (first seen) (ones a) (second seen) (ones b) (ones e) (ones 8)

pub start-zero : (seen : Seen) (a b e : ℕ) → get_or (twice seen a b e) 0 false ≡ false
start-zero q0 a b e = grind (arith)

pub gap-ones : (seen : Seen) (a b e i : ℕ) → 9 ≤ i → i < 9 + a → get_or (twice seen a b e) i false ≡ true
gap-ones seen a b e i low high =
    ap (λ l. get_or l i false) (twice-front seen a b e)
    ∙ get_or-append_right (first seen) (ones a ++ (second seen ++ behind_second seen b e)) 9 i false (length-first seen) low
    ∙ get_or_append_left (ones a) (second seen ++ behind_second seen b e) false (i - 9) (omega (arith, length-replicate {A = Bool} a true))
    ∙ get_or-replicate a (i - 9) true false (omega arith)

pub second-zero : (seen : Seen) (a b e : ℕ) → get_or (twice seen a b e) (9 + a) false ≡ false
second-zero seen a b e = grind (arith, twice-front, get_or-append_right, length-first, length-replicate)

-- from the back

abbrev pub before_last : Seen → ℕ → ℕ → ℕ → List Bool
before_last seen a b e = ((((first seen ++ ones a) ++ second seen) ++ ones b) ++ first seen) ++ ones e

pub twice-back : (seen : Seen) (a b e : ℕ) → twice seen a b e ≡ before_last seen a b e ++ (second seen ++ ones 8)
twice-back seen a b e = append_assoc (before_last seen a b e) (second seen) (ones 8)

pub twice-ones : (seen : Seen) (a b e : ℕ) → twice seen a b e ≡ (before_last seen a b e ++ second seen) ++ ones 8
twice-ones seen a b e = refl

-- Bits put together in two ways: what is behind in the one is the end of what is behind in the other.

pub record Longer (past bits before text : List Bool) : Type 0 where
  pub more : List Bool
  pub bits_is : bits ≡ more ++ text

pub record Over (past bits before text : List Bool) : Type 0 where
  pub lead : List Bool
  pub some : 0 < length lead
  pub text_is : text ≡ lead ++ bits
  pub past_is : past ≡ before ++ lead

tail-of : {x y : Bool} {xs ys : List Bool} → x ∷ xs ≡ y ∷ ys → xs ≡ ys
tail-of e = ap (drop 1) e

head-of : (x y : Bool) (xs ys : List Bool) → x ∷ xs ≡ y ∷ ys → x ≡ y
head-of x y xs ys e = ap (λ l. get_or l 0 false) e

pub split-ends : (past bits before text : List Bool) → past ++ bits ≡ before ++ text
    → Longer past bits before text ⊎ Over past bits before text
split-ends [] bits before text e = inl (record { more = before; bits_is = e })
split-ends (x ∷ past) bits [] text e = inr (record { lead = x ∷ past; some = omega arith; text_is = sym e; past_is = refl })
split-ends (x ∷ past) bits (y ∷ before) text e = each (split-ends past bits before text (tail-of e))
  where
    each : Longer past bits before text ⊎ Over past bits before text
        → Longer (x ∷ past) bits (y ∷ before) text ⊎ Over (x ∷ past) bits (y ∷ before) text
    each (inl l) = inl (record { more = l.more; bits_is = l.bits_is })
    each (inr o) = inr (record {
      lead = o.lead;
      some = o.some;
      text_is = o.text_is;
      past_is = ap (λ l. x ∷ l) o.past_is ∙ ap (λ h. h ∷ (before ++ o.lead)) (head-of x y (past ++ bits) (before ++ text) e);
    })
