-- Four bits, or eight, with which no pattern ends.
use Rattle.detection.proofs.Names.{◌≡◌, inl, inr, ℕ, ◌+◌, ◌-◌, ◌*◌, ◌/◌, ◌%◌, ◌^◌, ◌<◌, ◌≤◌, Bool, true, List, ◌++◌, length, get_or, take}
use Rattle.detection.proofs.Names.{drop, reverse, None, bit_or, lit≤, arith, length-append, refl, sym, ◌∙◌, ap, subst, append_assoc}
use Rattle.detection.proofs.Names.{cases_lt, append-nil, reverse-append, take-append-drop, get_or_append_left, get_or-append_right}
use Rattle.detection.proofs.Names.{get_or-replicate, shr-shr, or_shifted, bit_at_cat_low, beq, pointwise, bit_at, same_bits, bit_at-rem}
use Rattle.detection.proofs.Names.{ones, EndsPattern, second, Holds, ReaderStands, each_below, at_each, number, low_bits, Seen}
use Rattle.std.proofs.Common.{min}
use Rattle.std.proofs.Common.{bit_and}
use Rattle.std.proofs.lemmas.List.{length-reverse, length-drop}
use Rattle.std.proofs.lemmas.Nat.Bits.{bit_at_and, bit_at_cat_high, bit_at-zero}
use Rattle.detection.specs.Patterns.{seen_at}
use Rattle.detection.specs.Sights.{sights_of}
use Rattle.detection.proofs.Answered.{seen-once}
use Rattle.detection.proofs.Registers.{spelled}
use Rattle.detection.proofs.Sightings.{sights-ranged, ranged-none}
use Rattle.detection.proofs.Twice.{before_last, twice-ones}

-- four bits in turned order

pub four-turned : (latest turned four : ℕ) (past : List Bool) → turned < 16 → low_bits 4 turned ≡ reverse (low_bits 4 four)
    → ReaderStands latest past → ReaderStands (bit_or (latest * 16 % 2 ^ 128) turned) (past ++ low_bits 4 four)
four-turned latest turned four past small e h =
    let shifted : latest * 16 % 2 ^ 128 ≡ latest % 2 ^ 124 * 2 ^ 4 = omega arith in
    let value : bit_or (latest * 16 % 2 ^ 128) turned ≡ latest % 2 ^ 124 * 2 ^ 4 + turned =
    ap (λ x. bit_or x turned) shifted ∙ or_shifted (latest % 2 ^ 124) 4 turned small in
    let recent : low_bits 4 turned ++ reverse past ≡ reverse (past ++ low_bits 4 four) =
    ap (λ l. l ++ reverse past) e ∙ sym (reverse-append past (low_bits 4 four)) in
    subst (λ x. Holds 128 x (reverse (past ++ low_bits 4 four))) (sym value)
    (subst (Holds 128 (latest % 2 ^ 124 * 2 ^ 4 + turned)) recent record { each = each })
  where
    each : (place : ℕ) → place < 128
        → bit_at (latest % 2 ^ 124 * 2 ^ 4 + turned) place ≡ number (get_or (low_bits 4 turned ++ reverse past) place true)
    each place l = elim (cases_lt place 4) [
      | inl new ↦ bit_at_cat_low (latest % 2 ^ 124) 4 turned place new ∙ spelled 4 turned place new
          ∙ ap number (sym (get_or_append_left (low_bits 4 turned) (reverse past) true place new))
      | inr old ↦ bit_at_cat_high (latest % 2 ^ 124) 4 turned place small old ∙ bit_at-rem latest 124 (place - 4) (omega arith)
          ∙ h.each (place - 4) (omega arith)
          ∙ ap number (sym (get_or-append_right (low_bits 4 turned) (reverse past) 4 place true refl old))
    ]

-- the turned bits of each four
abbrev turned_test : ℕ → Bool
turned_test four = pointwise beq (low_bits 4 (17848844570815808640 / 2 ^ (4 * four) % 16)) (reverse (low_bits 4 four))

all_turned : each_below 16 turned_test ≡ true
all_turned = refl

pub turned-is : (four : ℕ) → four < 16 → low_bits 4 (17848844570815808640 / 2 ^ (4 * four) % 16) ≡ reverse (low_bits 4 four)
turned-is four small = same_bits (low_bits 4 (17848844570815808640 / 2 ^ (4 * four) % 16)) (reverse (low_bits 4 four))
    (at_each 16 turned_test all_turned four small)

-- eight ones in a row
pub eight-ones : (bits : ℕ)
    → bit_and (bit_and (bit_and bits (bits / 2)) (bit_and bits (bits / 2) / 4))
    (bit_and (bit_and bits (bits / 2)) (bit_and bits (bits / 2) / 4) / 16) ≡ 0
    → (i : ℕ) → ((j : ℕ) → j < 8 → bit_at bits (i + j) ≡ 1) → ⊥
eight-ones bits none i set =
    let same : i + 0 ≡ i = omega arith in
    let eights : bit_at (bit_and fours (fours / 16)) i ≡ 1 =
    behind fours 4 i (subst (λ n. bit_at fours n ≡ 1) same (quad 0 (lit≤ tt))) (quad 4 (lit≤ tt)) in
    let zero_bit : 0 ≡ 1 = sym (bit_at-zero i) ∙ ap (λ n. bit_at n i) (sym none) ∙ eights in
    omega (arith, zero_bit)
  where
    twos : ℕ
    twos = bit_and bits (bits / 2)

    fours : ℕ
    fours = bit_and twos (twos / 4)

    both : (a b : ℕ) → a ≡ 1 → b ≡ 1 → min a b ≡ 1
    both a b e f = rw (e, f) refl

    behind : (x k n : ℕ) → bit_at x n ≡ 1 → bit_at x (n + k) ≡ 1 → bit_at (bit_and x (x / 2 ^ k)) n ≡ 1
    behind x k n a b =
        let turned : k + n ≡ n + k = omega arith in
        let second : bit_at (x / 2 ^ k) n ≡ 1 = ap (λ m. m % 2) (shr-shr x k n) ∙ ap (bit_at x) turned ∙ b in
        bit_at_and x (x / 2 ^ k) n ∙ both (bit_at x n) (bit_at (x / 2 ^ k) n) a second

    pair : (j : ℕ) → j ≤ 6 → bit_at twos (i + j) ≡ 1
    pair j l = let next : i + (j + 1) ≡ i + j + 1 = omega arith in
        behind bits 1 (i + j) (set j (omega arith)) (subst (λ n. bit_at bits n ≡ 1) next (set (j + 1) (omega arith)))

    quad : (j : ℕ) → j ≤ 4 → bit_at fours (i + j) ≡ 1
    quad j l = let next : i + (j + 2) ≡ i + j + 2 = omega arith in
        behind twos 2 (i + j) (pair j (omega arith)) (subst (λ n. bit_at twos n ≡ 1) next (pair (j + 2) (omega arith)))

-- a pattern ends with eight ones
ends-ones : (latest : ℕ) (seen : Seen) (bits more : List Bool) → ReaderStands latest (bits ++ more) → length more ≤ 8
    → EndsPattern seen bits
    → (j : ℕ) → j < 8 → bit_at latest (length more + j) ≡ 1
ends-ones latest seen bits more h few p j l =
    let front = p.before ++ (before_last seen p.a p.b p.e ++ second seen) in
    let split : bits ≡ front ++ ones 8 =
    p.ends ∙ ap (λ t. p.before ++ t) (twice-ones seen p.a p.b p.e)
    ∙ sym (append_assoc p.before (before_last seen p.a p.b p.e ++ second seen) (ones 8)) in
    let turned : reverse bits ≡ ones 8 ++ reverse front = ap reverse split ∙ reverse-append front (ones 8) in
    let all : reverse (bits ++ more) ≡ reverse more ++ reverse bits = reverse-append bits more in
    let place : length more + j - length more ≡ j = omega arith in
    h.each (length more + j) (omega arith)
    ∙ ap number (ap (λ r. get_or r (length more + j) true) all
    ∙ get_or-append_right (reverse more) (reverse bits) (length more) (length more + j) true (length-reverse more) (omega arith)
    ∙ ap (λ n. get_or (reverse bits) n true) place ∙ ap (λ r. get_or r j true) turned
    ∙ get_or_append_left (ones 8) (reverse front) true j l ∙ get_or-replicate 8 j true true l)

-- where eight ones in a row stand nowhere in the latest sixteen bits, no pattern ends with any of the last eight
pub none-seen : (latest : ℕ) (past new : List Bool) → length new ≤ 8 → ReaderStands latest (past ++ new)
    → ((i : ℕ) → ((j : ℕ) → j < 8 → bit_at (latest % 65536) (i + j) ≡ 1) → ⊥) → sights_of (past ++ new) ≡ sights_of past
none-seen latest past new few h none =
    sights-ranged past new (λ p. seen_at (take (length past + p) (past ++ new))) (λ p low high. refl)
    ∙ ap (λ l. sights_of past ++ l) (ranged-none (λ p. seen_at (take (length past + p) (past ++ new))) (length past) (length new) each)
    ∙ append-nil (sights_of past)
  where
    each : (p : ℕ) → 0 < p → p ≤ length new → seen_at (take (length past + p) (past ++ new)) ≡ None
    each p low high =
        let all = past ++ new in
        let bits = take (length past + p) all in
        let more = drop (length past + p) all in
        let joined : bits ++ more ≡ all = take-append-drop (length past + p) all in
        let left : length more ≡ length new - p = omega (arith, length-drop (length past + p) all, length-append past new) in
        sym (seen-once bits None (λ seen ends. none (length more) (λ j l.
        bit_at-rem latest 16 (length more + j) (omega (arith, left, few, low))
        ∙ ends-ones latest seen bits more (subst (ReaderStands latest) (sym joined) h) (omega (arith, left, few)) ends j l)))
