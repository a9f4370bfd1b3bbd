-- The decimal digits of a number are a word that is read as a number, whose value it is.
use Rattle.noise_script.proofs.Names.{◌≡◌, ℕ, ◌^◌, ◌<◌, ◌≤◌, Bool, true, ◌&&◌, nat_le, List, [], ◌∷◌, refl, arith, and_parts, nat_tests}
use Rattle.noise_script.proofs.Names.{list_all, is_digit, is_number, value_of}
use Rattle.std.specs.Prelude.{decimal}
use Rattle.std.proofs.lemmas.Fmt.{decimal_nonempty, digits_decimal, length-decimal-le}
use Rattle.std.proofs.lemmas.Str.Parse.{IsDigitsTest, IsNumeralModel, numerals_by_weight}

abbrev pub AllDigits : List ℕ → Type 0
AllDigits word = list_all is_digit word ≡ true

pub at-most : (a b : ℕ) → nat_le a b ≡ true → a ≤ b
at-most a b e = grind (arith, nat_tests, e)

pub is-most : (a b : ℕ) → a ≤ b → nat_le a b ≡ true
is-most a b l = grind (arith, nat_tests, l)

pub both : (a b : Bool) → a ≡ true → b ≡ true → (a && b) ≡ true
both a b e f = rw (e, f) refl

tells : IsDigitsTest AllDigits
tells = grind (arith, at-most, both, is-most)

pub numerals : IsNumeralModel AllDigits value_of
numerals = numerals_by_weight AllDigits tells value_of (record { empty = refl; more = λ c cs k. refl })

abbrev pub IsSmall : ℕ → Type 0
IsSmall n = n < 2 ^ 64

pub is-number : (n : ℕ) → IsSmall n → is_number (decimal n) ≡ true
is-number n h =
    both _ _ (is-most 1 _ (decimal_nonempty n h)) (both _ _ (is-most _ 20 (length-decimal-le 20 n (omega arith) (omega (arith, h)) h))
    (digits_decimal numerals n h))

-- what holds of each digit holds of the octets of a number
all-weaker : (test : ℕ → Bool) → ((x : ℕ) → is_digit x ≡ true → test x ≡ true) → (xs : List ℕ) → AllDigits xs → list_all test xs ≡ true
all-weaker test f [] h = refl
all-weaker test f (x ∷ xs) h = let p = and_parts (is_digit x) (list_all is_digit xs) h in
    both (test x) (list_all test xs) (f x p.0) (all-weaker test f xs p.1)

pub number-all : (test : ℕ → Bool) → ((x : ℕ) → is_digit x ≡ true → test x ≡ true) → (n : ℕ) → IsSmall n → list_all test (decimal n) ≡ true
number-all test f n h = all-weaker test f (decimal n) (digits_decimal numerals n h)
