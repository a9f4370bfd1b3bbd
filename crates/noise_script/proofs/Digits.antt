-- Numbers by their digits.
use Rattle.noise_script.proofs.Names.{◌≡◌, ℕ, suc, ◌+◌, ◌-◌, ◌*◌, ◌^◌, ◌<◌, ◌≤◌, true, List, [], ◌∷◌, ◌++◌, length, take, get_or, refl, ap}
use Rattle.noise_script.proofs.Names.{◌∙◌, arith, length-append, and_parts, leb-true, take_more, list_all, is_digit, value_of}
use Rattle.std.proofs.Common.{leb}
use Rattle.std.proofs.Common.{length-take}
use Rattle.std.proofs.lemmas.List.Folds.{list_all_more}
use Rattle.std.proofs.Math.Nat.{pow-le-pow_right}
use native.Mathlib.Nat.{pow-suc}

pub value-snoc : (digits : List ℕ) (digit : ℕ) → value_of (digits ++ digit ∷ []) ≡ 10 * value_of digits + (digit - 48)
value-snoc [] digit = omega arith
value-snoc (x ∷ digits) digit =
    let longer : length (digits ++ digit ∷ []) ≡ suc (length digits) = omega (arith, length-append digits (digit ∷ [])) in
    rw (longer, value-snoc digits digit, pow-suc 10 (length digits)) (spread (x - 48) (10 ^ length digits) (value_of digits) (digit - 48))
  where
    spread : (a p v d : ℕ) → a * (p * 10) + (10 * v + d) ≡ 10 * (a * p + v) + d
    spread a p v d = omega arith

pub value-more : (word : List ℕ) (i : ℕ) → i < length word
    → value_of (take (i + 1) word) ≡ 10 * value_of (take i word) + (get_or word i 0 - 48)
value-more word i h = ap value_of (take_more word i 0 h) ∙ value-snoc (take i word) (get_or word i 0)

pub value-small : (digits : List ℕ) → list_all is_digit digits ≡ true → value_of digits < 10 ^ length digits
value-small [] h = omega arith
value-small (x ∷ digits) h =
    let parts = and_parts (is_digit x) (list_all is_digit digits) h in
    let later = value-small digits parts.1 in
    let few : x ≤ 57 = leb-true x 57 (and_parts (leb 48 x) (leb x 57) parts.0).1 in
    let low : x - 48 ≤ 9 = omega (arith, few) in
    rw (pow-suc 10 (length digits)) (bounded (x - 48) (10 ^ length digits) (value_of digits) low later)
  where
    bounded : (a p v : ℕ) → a ≤ 9 → v < p → a * p + v < p * 10
    bounded a p v h l = grind arith

pub front-small : (word : List ℕ) (i n : ℕ) → list_all is_digit (take i word) ≡ true → i ≤ length word → i ≤ n
    → value_of (take i word) < 10 ^ n
front-small word i n h l m = grind (arith, length-take, pow-le-pow_right, value-small)

-- one digit more
pub digit-more : (word : List ℕ) (i value next : ℕ) → i < length word → value ≡ value_of (take i word) → next ≡ get_or word i 0 - 48
    → 10 * value + next ≡ value_of (take (i + 1) word)
digit-more word i value next h v n = rw (value-more word i h, n, v) refl

pub digits-more : (word : List ℕ) (i : ℕ) → i < length word → list_all is_digit (take i word) ≡ true → is_digit (get_or word i 0) ≡ true
    → list_all is_digit (take (i + 1) word) ≡ true
digits-more word i h a d = list_all_more is_digit word i 0 h ∙ rw (a, d) refl

-- ten times a number of few digits, and one more, is far below 2^128
pub tenfold-fits : (word : List ℕ) (i value next : ℕ) → i < length word → length word ≤ 20 → list_all is_digit (take i word) ≡ true
    → value ≡ value_of (take i word) → next ≤ 255 → 10 * value + next < 2 ^ 128
tenfold-fits word i value next h l a v n = let small = front-small word i 20 a (omega arith) (omega arith) in omega (arith, small, v)
