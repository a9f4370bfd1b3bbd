-- The latest eight bits as a number.
use Rattle.bit_stuffing.proofs.Names.{◌≡◌, ℕ, suc, ◌+◌, ◌-◌, ◌*◌, ◌/◌, ◌%◌, ◌^◌, ◌<◌, ◌≤◌, Bool, true, nat_eq, List, [], ◌∷◌}
use Rattle.bit_stuffing.proofs.Names.{◌++◌, length, lit<, arith, refl, sym, ◌∙◌, ap, inl, inr, cases_lt, nat_tests, common_steps}
use Rattle.bit_stuffing.proofs.Names.{bit_at_cat_low, bit_at-suc, bit_at, back, HoldsLatest, bit_of, flag, FlagEndsAt, SevenOnesEndAt}
use Rattle.bit_stuffing.proofs.Names.{number}
use Rattle.std.proofs.lemmas.Nat.Bits.{bit_at_lowest, same_from_bits_below}
use Rattle.std.proofs.lemmas.Nat.{shr_split}

back-first : (past : List Bool) (bit : Bool) → back (past ++ bit ∷ []) 1 ≡ bit
back-first past bit = grind (arith, common_steps, nat_tests)

back-more : (past : List Bool) (bit : Bool) (k : ℕ) → 1 ≤ k → back (past ++ bit ∷ []) (k + 1) ≡ back past k
back-more past bit k h = grind (arith, common_steps, nat_tests)

pub back-within : (bits : List Bool) (places : ℕ) → places ≤ length bits → back bits places ≡ bit_of bits (length bits - places)
back-within bits places h = grind (arith, nat_tests)

pub back-past : (bits : List Bool) (places : ℕ) → length bits < places → back bits places ≡ true
back-past bits places h = grind (arith, nat_tests)

pub number-lt : (b : Bool) → number b < 2
number-lt b = grind (arith)

pub same_number : (a b : Bool) → number a ≡ number b → a ≡ b
same_number a b e = grind (arith)

-- a fact at each of eight places
pub below8 : (P : ℕ → Type 0) → P 0 → P 1 → P 2 → P 3 → P 4 → P 5 → P 6 → P 7 → (i : ℕ) → i < 8 → P i
below8 P p0 p1 p2 p3 p4 p5 p6 p7 i l = grind (arith)

-- the low bits of a number are those of its remainder
pub bit_at-rem : (n k i : ℕ) → i < k → bit_at (n % 2 ^ k) i ≡ bit_at n i
bit_at-rem n k i h = let e : n ≡ n / 2 ^ k * 2 ^ k + n % 2 ^ k = sym (shr_split n k) in sym (ap (λ x. bit_at x i) e
    ∙ bit_at_cat_low (n / 2 ^ k) k (n % 2 ^ k) i h)

-- one more bit
pub latest-shifted : (r n : ℕ) (past : List Bool) (bit : Bool) → n ≡ number bit → HoldsLatest r past
    → HoldsLatest (r / 2 + 128 * n) (past ++ bit ∷ [])
latest-shifted r n past bit e h = record { low = omega (arith, small, h.low); each = each }
  where
    small : n < 2
    small = rw e (number-lt bit)

    each : (place : ℕ) → place < 8 → bit_at (r / 2 + 128 * n) place ≡ number (back (past ++ bit ∷ []) (8 - place))
    each place l = elim (cases_lt place 7) [
      | inl older ↦
          let turned : r / 2 + 128 * n ≡ n * 2 ^ 7 + r / 2 = omega arith in
          let up : 8 - place ≡ 7 - place + 1 = omega arith in
          let there : 8 - suc place ≡ 7 - place = omega arith in
          let held : bit_at r (suc place) ≡ number (back past (7 - place)) = rw there at (h.each (suc place) (omega arith)) in
          rw up (ap (λ x. bit_at x place) turned ∙ bit_at_cat_low n 7 (r / 2) place older ∙ sym (bit_at-suc r place) ∙ held
          ∙ ap number (sym (back-more past bit (7 - place) (omega arith))))
      | inr last ↦
          let seven : place ≡ 7 = omega arith in
          let top : (r / 2 + 128 * n) / 2 ^ 7 % 2 ≡ n = omega (arith, small, h.low) in
          rw seven (top ∙ e ∙ ap number (sym (back-first past bit)))
    ]

-- a flag is a number
flag_places : (i : ℕ) → i < 8 → bit_at 126 i ≡ number (bit_of flag i)
flag_places = below8 (λ i. bit_at 126 i ≡ number (bit_of flag i)) refl refl refl refl refl refl refl refl

pub latest-flag : (bits : List Bool) → HoldsLatest 126 bits → FlagEndsAt bits (length bits)
latest-flag bits h = record { room = room; within = omega arith; spelled = spelled }
  where
    room : 8 ≤ length bits
    room = grind (arith, number, back, back-past)

    spelled : (i : ℕ) → i < 8 → bit_of bits (length bits - 8 + i) ≡ bit_of flag i
    spelled i l =
        let place : length bits - (8 - i) ≡ length bits - 8 + i = omega (arith, room) in
        let seen : back bits (8 - i) ≡ bit_of bits (length bits - 8 + i) = grind (arith, back-within, room) in
        same_number (bit_of bits (length bits - 8 + i)) (bit_of flag i) (ap number (sym seen) ∙ sym (h.each i l) ∙ flag_places i l)

pub flag-latest : (latest : ℕ) (bits : List Bool) → HoldsLatest latest bits → FlagEndsAt bits (length bits) → latest ≡ 126
flag-latest latest bits h f = same_from_bits_below 8 latest 126 h.low (lit< tt) each
  where
    each : (place : ℕ) → place < 8 → bit_at latest place ≡ bit_at 126 place
    each place l = grind (arith, back, back-within, number, flag_places)

-- seven ones are a number
seven_places : (i : ℕ) → i < 8 → i < 7 → bit_at 127 i ≡ 1
seven_places = below8 (λ i. i < 7
    → bit_at 127 i ≡ 1) (λ l. refl) (λ l. refl) (λ l. refl) (λ l. refl) (λ l. refl) (λ l. refl) (λ l. refl) (λ l. absurd (omega arith))

pub latest-seven : (latest : ℕ) (bits : List Bool) → HoldsLatest latest bits → 7 ≤ length bits → latest / 2 ≡ 127
    → SevenOnesEndAt bits (length bits)
latest-seven latest bits h room e = grind (arith, bit_at-suc, seven_places, number, back, back-within, same_number)

pub seven-latest : (latest : ℕ) (bits : List Bool) → HoldsLatest latest bits → SevenOnesEndAt bits (length bits) → latest / 2 ≡ 127
seven-latest latest bits h s = same_from_bits_below 7 (latest / 2) 127 (omega (arith, h.low)) (lit< tt) each
  where
    each : (place : ℕ) → place < 7 → bit_at (latest / 2) place ≡ bit_at 127 place
    each place l =
        let up : 8 - suc place ≡ 7 - place = omega arith in
        let at_place : length bits - (7 - place) ≡ length bits - 7 + place = omega (arith, s.room) in
        let held : bit_at latest (suc place) ≡ number (back bits (7 - place)) = rw up at (h.each (suc place) (omega arith)) in
        let seen : back bits (7 - place) ≡ bit_of bits (length bits - 7 + place) = grind (arith, back-within) in
        sym (bit_at-suc latest place) ∙ held ∙ ap number (seen ∙ s.ones place l) ∙ sym (seven_places place (omega arith) l)

-- the oldest of them
is_one : (b : Bool) → nat_eq (number b) 1 ≡ b
is_one b = grind (arith)

pub latest-oldest : (latest : ℕ) (bits : List Bool) → HoldsLatest latest bits → nat_eq (latest % 2) 1 ≡ back bits 8
latest-oldest latest bits h = ap (λ n. nat_eq n 1) (sym (bit_at_lowest latest) ∙ h.each 0 (lit< tt)) ∙ is_one (back bits 8)

-- before the first bit
pub latest-none : HoldsLatest 255 []
latest-none = record {
  low = lit< tt;
  each = below8 (λ place. bit_at 255 place ≡ number
      (back [] (8 - place))) refl refl refl refl refl refl refl refl;
}
