-- Numbers in decimal digits without leading zeros.
use Rattle.trace_audit.proofs.Cited.{◌≡◌, ℕ, zero, suc, ◌^◌, ◌<◌, ◌≤◌, Bool, true, false, cond, List, ◌++◌, length, get_or, Option, Some}
use Rattle.trace_audit.proofs.Cited.{None, refl, sym, ap, subst, ◌∙◌, arith, append_assoc, and_parts, nat_tests, list_all, option_map}
use Rattle.trace_audit.proofs.Cited.{option_and_then, nat_le, at-most, is_digit, plain_number, behind, front_of, rest_of, number_at}
use Rattle.trace_audit.proofs.Cited.{behind_number, behind_labelled}
use Rattle.std.proofs.Common.{◌&&◌}
use Rattle.std.specs.Prelude.{decimal, nat_lt}
use Rattle.std.proofs.lemmas.Bool.{lt-ltb, le-ltb}
use Rattle.std.proofs.lemmas.Fmt.{digits_decimal, digits_value-decimal, decimal-digits_value, first_decimal, decimal_digit}
use Rattle.noise_script.specs.Numbers.{is_number, value_of, leads_well}
use Rattle.noise_script.proofs.Decimals.{is-most, numerals, IsSmall, is-number}
use Rattle.trace_audit.specs.Cutting.{if_below}
use Rattle.trace_audit.proofs.Fronts.{chained, mapped, behind-reads, behind-is, begins, front-rest, front-reads, rest-reads, join2}

-- a zero leads no other digit
no-zero : (word : List ℕ) → 48 < get_or word 0 0 → leads_well word ≡ true
no-zero word h = grind (arith)

alone : (word : List ℕ) → length word ≤ 1 → leads_well word ≡ true
alone word h = let e : nat_le 2 (length word) ≡ false = grind (arith, nat_tests, h) in rw e refl

leads : (n : ℕ) → IsSmall n → leads_well (decimal n) ≡ true
leads zero h = alone (decimal 0) (omega (arith, ap (λ (l : List ℕ). length l) (decimal_digit 0 (omega arith))))
leads (suc n) h = no-zero (decimal (suc n)) (first_decimal (suc n) (omega arith) h)

pub plain-reads : (n : ℕ) → IsSmall n → plain_number (decimal n) ≡ Some n
plain-reads n h =
    let v : value_of (decimal n) ≡ n = digits_value-decimal numerals n h in
    rw (is-number n h, leads n h, v, lt-ltb n (2 ^ 64) h) refl

-- the tests of a word, where all pass
tested : (a b c : Bool) (v n : ℕ) → cond (a && (b && c)) (Some v) None ≡ Some n → (a ≡ true) × (b ≡ true) × (c ≡ true) × (v ≡ n)
tested a b c v n e = grind (arith)

led : (word : List ℕ) → leads_well word ≡ true → 0 < length word → get_or word 0 0 ≡ 48 → length word ≡ 1
led word l h z = grind (arith, is-most)

pub plain-is : (word : List ℕ) (n : ℕ) → plain_number word ≡ Some n → word ≡ decimal n
plain-is word n e =
    let t = tested (is_number word) (nat_lt (value_of word) (2 ^ 64)) (leads_well word) (value_of word) n e in
    let p = and_parts (nat_le 1 (length word)) (nat_le (length word) 20 && list_all is_digit word) t.0 in
    let q = and_parts (nat_le (length word) 20) (list_all is_digit word) p.1 in
    let some : 0 < length word = omega (arith, at-most 1 (length word) p.0) in
    let small : value_of word < 2 ^ 64 = grind (arith, nat_tests, t.1) in
    sym (decimal-digits_value numerals word q.1 some (led word t.2 some) small) ∙ ap decimal t.3

bounded : (n bound m : ℕ) → if_below bound n ≡ Some m → (n ≡ m) × (m < bound)
bounded n bound m e = grind (arith)

-- ---- at the front of a text

-- none is read, or one below the bound, or past it
pub read-none : (bound : ℕ) (text : List ℕ) → None ≡ plain_number (front_of is_digit text) → None ≡ number_at bound text
read-none bound text e = ap (λ (o : Option ℕ). option_map (λ n. (n, rest_of is_digit text)) (option_and_then (if_below bound) o)) e

pub read-below : (bound n : ℕ) (text rest : List ℕ) → Some n ≡ plain_number (front_of is_digit text) → rest ≡ rest_of is_digit text
    → n < bound
    → Some (n, rest) ≡ number_at bound text
read-below bound n text rest e r h = rw (sym e, r, lt-ltb n bound h) refl

pub read-past : (bound n : ℕ) (text : List ℕ) → Some n ≡ plain_number (front_of is_digit text) → bound ≤ n → None ≡ number_at bound text
read-past bound n text e h = rw (sym e, le-ltb n bound h) refl

pub number-reads : (bound n : ℕ) (rest : List ℕ) → n < bound → bound ≤ 2 ^ 64 → begins is_digit rest ≡ false
    → number_at bound (decimal n ++ rest) ≡ Some (n, rest)
number-reads bound n rest h fits stops =
    let small : IsSmall n = omega (arith, h, fits) in
    let digits : list_all is_digit (decimal n) ≡ true = digits_decimal numerals n small in
    rw (
      front-reads is_digit (decimal n) rest digits stops,
      rest-reads is_digit (decimal n) rest digits stops,
      plain-reads n small,
      lt-ltb n bound h,
    ) refl

pub number-is : (bound : ℕ) (text : List ℕ) (n : ℕ) (rest : List ℕ) → number_at bound text ≡ Some (n, rest)
    → (n < bound) × (text ≡ decimal n ++ rest)
number-is bound text n rest e =
    let m = mapped (λ (n : ℕ). (n, rest_of is_digit text)) (option_and_then (if_below bound) (plain_number (front_of is_digit text)))
    (n, rest) e in
    let c = chained (if_below bound) (plain_number (front_of is_digit text)) m.0 m.1 in
    let b = bounded c.0 bound m.0 c.2 in
    let front : front_of is_digit text ≡ decimal c.0 = plain-is (front_of is_digit text) c.0 c.1 in
    let is_n : m.0 ≡ n = ap (λ (p : ℕ × List ℕ). p.0) m.2 in
    let is_rest : rest_of is_digit text ≡ rest = ap (λ (p : ℕ × List ℕ). p.1) m.2 in (
      subst (λ k. k < bound) is_n b.1,
      sym (front-rest is_digit text) ∙ ap (λ l. l ++ rest_of is_digit text) (front ∙ ap decimal (b.0 ∙ is_n))
          ∙ ap (λ l. decimal n ++ l) is_rest,
    )

pub behind-number-reads : (bound n : ℕ) (rest : List ℕ) → n < bound → bound ≤ 2 ^ 64 → begins is_digit rest ≡ false
    → behind_number bound (decimal n ++ rest) ≡ Some rest
behind-number-reads bound n rest h fits stops = ap (option_map (λ (r : ℕ × List ℕ). r.1)) (number-reads bound n rest h fits stops)

pub behind-number-is : (bound : ℕ) (text rest : List ℕ) → behind_number bound text ≡ Some rest
    → (n : ℕ) × (n < bound) × (text ≡ decimal n ++ rest)
behind-number-is bound text rest e = grind (arith, mapped, number-is)

-- behind a label
pub labelled-reads : (label : List ℕ) (bound n : ℕ) (rest : List ℕ) → n < bound → bound ≤ 2 ^ 64 → begins is_digit rest ≡ false
    → behind_labelled label bound ((label ++ decimal n) ++ rest) ≡ Some rest
labelled-reads label bound n rest h fits stops = grind (arith, append_assoc, behind-reads, behind-number-reads)

pub labelled-is : (label : List ℕ) (bound : ℕ) (text rest : List ℕ) → behind_labelled label bound text ≡ Some rest
    → (n : ℕ) × (n < bound) × (text ≡ (label ++ decimal n) ++ rest)
labelled-is label bound text rest e =
    let c = chained (behind_number bound) (behind label text) rest e in
    let p = behind-number-is bound c.0 rest c.2 in
    (p.0, p.1, join2 text label c.0 (decimal p.0) rest (behind-is label text c.0 c.1) p.2)
