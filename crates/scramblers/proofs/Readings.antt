-- Scrambling and descrambling read each other backwards.
use Rattle.scramblers.proofs.Names.{◌≡◌, ℕ, zero, suc, ◌-◌, ◌<◌, ◌≤◌, inl, inr, Bool, true, false, List, length, arith, refl, sym, ◌∙◌}
use Rattle.scramblers.proofs.Names.{cases_lt, nat_tests, common_steps, xor, Scrambles, Descrambles, bit_at_place, earlier}
use Rattle.std.proofs.Common.{take}
use Rattle.std.proofs.Common.{length-take}
use Rattle.std.proofs.lemmas.List.{ext_get_or}
use Rattle.scramblers.specs.Laws.{SameBefore}

-- what turns a bit turns it back
backwards : (a b c d : Bool) → a ≡ xor (xor b c) d → b ≡ xor (xor a c) d
backwards a true true true e = rw e refl
backwards a true true false e = rw e refl
backwards a true false true e = rw e refl
backwards a true false false e = rw e refl
backwards a false true true e = rw e refl
backwards a false true false e = rw e refl
backwards a false false true e = rw e refl
backwards a false false false e = rw e refl

pub Descrambles_from_Scrambles : (tap : ℕ) (input line : List Bool) → Scrambles tap input line → Descrambles tap line input
Descrambles_from_Scrambles tap input line h = record {
  lengths = sym h.lengths;
  each = λ i within. backwards (bit_at_place line i) (bit_at_place input i) (earlier line i tap) (earlier line i 23)
      (h.each i (omega (arith, h.lengths)));
}

pub Scrambles_from_Descrambles : (tap : ℕ) (input line : List Bool) → Descrambles tap line input → Scrambles tap input line
Scrambles_from_Descrambles tap input line h = record {
  lengths = sym h.lengths;
  each = λ i within. backwards (bit_at_place input i) (bit_at_place line i) (earlier line i tap) (earlier line i 23)
      (h.each i (omega (arith, h.lengths)));
}

-- no places before a place stands the bit itself
earlier-none : (bits : List Bool) (i : ℕ) → earlier bits i 0 ≡ bit_at_place bits i
earlier-none bits i = grind (arith, nat_tests)

-- the output follows from three bits of the line
pub depends_on_three : (tap : ℕ) (a b of_a of_b : List Bool) (i j : ℕ) → i < length a → j < length b → Descrambles tap a of_a
    → Descrambles tap b of_b
    → SameBefore 0 a i b j → SameBefore tap a i b j → SameBefore 23 a i b j → bit_at_place of_a i ≡ bit_at_place of_b j
depends_on_three tap a b of_a of_b i j in_a in_b h k here near far =
    let same : bit_at_place a i ≡ bit_at_place b j = sym (earlier-none a i) ∙ here ∙ earlier-none b j in
    h.each i in_a ∙ rw (same, near, far) refl ∙ sym (k.each j in_b)

-- a line has one output
pub Descrambles_once : (tap : ℕ) (line output other : List Bool) → Descrambles tap line output → Descrambles tap line other → output ≡ other
Descrambles_once tap line output other h k =
    ext_get_or false output other (h.lengths ∙ sym k.lengths)
    (λ i within. h.each i (omega (arith, h.lengths)) ∙ sym (k.each i (omega (arith, h.lengths))))

-- what was scrambled comes back
pub gives_back : (tap : ℕ) (input line output : List Bool) → Scrambles tap input line → Descrambles tap line output → output ≡ input
gives_back tap input line output h k = Descrambles_once tap line output input k (Descrambles_from_Scrambles tap input line h)

-- right again after 23 right bits
pub right_after_23 : (tap : ℕ) (input line received output : List Bool) (i j : ℕ) → tap ≤ 23 → i < length received → j < length line
    → Scrambles tap input line → Descrambles tap received output
    → ((places : ℕ) → places ≤ 23 → SameBefore places received i line j) → bit_at_place output i ≡ bit_at_place input j
right_after_23 tap input line received output i j high in_received in_line h k agrees =
    depends_on_three tap received line output input i j in_received in_line k (Descrambles_from_Scrambles tap input line h)
    (agrees 0 (omega arith)) (agrees tap high) (agrees 23 (omega arith))

-- places before n do not see what follows
earlier-take : (line : List Bool) (n i k : ℕ) → i < n → 1 ≤ k → earlier (take n line) i k ≡ earlier line i k
earlier-take line n i k within low = grind (arith, common_steps, nat_tests)

place-take : (bits : List Bool) (n i : ℕ) → i < n → bit_at_place (take n bits) i ≡ bit_at_place bits i
place-take bits n i within = grind (arith, common_steps)

-- what was sent of the first bits
pub Scrambles-take : (tap n : ℕ) (input line : List Bool) → 1 ≤ tap → Scrambles tap input line → Scrambles tap (take n input) (take n line)
Scrambles-take tap n input line low h = record {
  lengths = rw (length-take n line, length-take n input, h.lengths) refl;
  each = λ i within.
      let before : i < n = omega (arith, length-take {A = Bool}) in
      let inside : i < length input = omega (arith, length-take {A = Bool}) in
      rw (
        place-take line n i before,
        place-take input n i before,
        earlier-take line n i tap before low,
        earlier-take line n i 23 before (omega arith),
      ) (h.each i inside);
}

-- two lines that agree below a place have the same bits before it
earlier-same : (line other : List Bool) (i d : ℕ) → ((k : ℕ) → k < i → bit_at_place line k ≡ bit_at_place other k) → 1 ≤ d
    → earlier line i d ≡ earlier other i d
earlier-same line other i d same far =
    elim (cases_lt i d) [
      | inl short ↦ grind (arith, nat_tests)
      | inr long ↦ let here = same (i - d) (omega arith) in
          grind (arith, nat_tests)
    ]

-- two lines of one input agree at a place where they agree below it
agree_next : (tap : ℕ) (input line other : List Bool) (i : ℕ) → 1 ≤ tap → Scrambles tap input line → Scrambles tap input other
    → i < length input
    → ((k : ℕ) → k < i → bit_at_place line k ≡ bit_at_place other k) → bit_at_place line i ≡ bit_at_place other i
agree_next tap input line other i low h k within same =
    h.each i within ∙ rw (earlier-same line other i tap same low, earlier-same line other i 23 same (omega arith)) refl
    ∙ sym (k.each i within)

agree_below : (tap n : ℕ) (input line other : List Bool) → 1 ≤ tap → Scrambles tap input line → Scrambles tap input other → n ≤ length input
    → (i : ℕ) → i < n → bit_at_place line i ≡ bit_at_place other i
agree_below tap zero input line other low h k within i below = absurd (omega arith)
agree_below tap (suc n) input line other low h k within i below =
    let before : (j : ℕ) → j < n → bit_at_place line j ≡ bit_at_place other j = agree_below tap n input line other low h k (omega arith) in
    agree_next tap input line other i low h k (omega arith) (λ j less. before j (omega arith))

pub Scrambles_once : (tap : ℕ) (input line other : List Bool) → 1 ≤ tap → Scrambles tap input line → Scrambles tap input other
    → line ≡ other
Scrambles_once tap input line other low h k =
    ext_get_or false line other (h.lengths ∙ sym k.lengths)
    (λ i within. agree_below tap (length input) input line other low h k (omega arith) i (omega (arith, h.lengths)))
