-- What one more bit changes in the equations of scrambling.
use Rattle.scramblers.proofs.Names.{◌≡◌, ◌∙◌, ℕ, ◌+◌, ◌-◌, ◌<◌, ◌≤◌, ◌⊎◌, inl, inr, Bool, List, [], ◌∷◌, ◌++◌, length, arith, refl, sym, ap}
use Rattle.scramblers.proofs.Names.{subst, cases_lt, nat_tests, common_steps, xor, Scrambles, Descrambles, bit_at_place, earlier}
use Rattle.std.proofs.Common.{length-append}

-- what stands before the place behind the last bit
pub earlier-last : (line : List Bool) (bit : Bool) → earlier (line ++ bit ∷ []) (length (line ++ bit ∷ [])) 1 ≡ bit
earlier-last line bit = grind (arith, common_steps, nat_tests)

pub earlier-more : (line : List Bool) (bit : Bool) (k : ℕ) → 1 ≤ k
    → earlier (line ++ bit ∷ []) (length (line ++ bit ∷ [])) (k + 1) ≡ earlier line (length line) k
earlier-more line bit k low = grind (arith, common_steps, nat_tests)

-- the same, seen from the place behind one more bit
pub earlier-less : (line : List Bool) (bit : Bool) (k : ℕ) → 2 ≤ k
    → earlier (line ++ bit ∷ []) (length (line ++ bit ∷ [])) k ≡ earlier line (length line) (k - 1)
earlier-less line bit k far =
    let back : k ≡ k - 1 + 1 = omega arith in
    ap (earlier (line ++ bit ∷ []) (length (line ++ bit ∷ []))) back ∙ earlier-more line bit (k - 1) (omega arith)

-- four elements behind a list, put there one by one
pub four-behind : {X : Type 0} (xs : List X) (a b c d : X) → (((xs ++ a ∷ []) ++ b ∷ []) ++ c ∷ []) ++ d ∷ [] ≡ xs ++ a ∷ b ∷ c ∷ d ∷ []
four-behind [] a b c d = refl
four-behind (x ∷ xs) a b c d = ap (λ ys. x ∷ ys) (four-behind xs a b c d)

-- a bit more changes nothing of what stands before an earlier place
pub earlier-append : (line : List Bool) (bit : Bool) (i k : ℕ) → i ≤ length line → 1 ≤ k → earlier (line ++ bit ∷ []) i k ≡ earlier line i k
earlier-append line bit i k within low = grind (arith, common_steps, nat_tests)

-- what is written at a place, as both equations have it
abbrev pub turned_at : ℕ → Bool → List Bool → ℕ → Bool
turned_at tap bit line i = xor (xor bit (earlier line i tap)) (earlier line i 23)

turned-append : (tap : ℕ) (bit : Bool) (line : List Bool) (last : Bool) (i : ℕ) → 1 ≤ tap → i ≤ length line
    → turned_at tap bit (line ++ last ∷ []) i ≡ turned_at tap bit line i
turned-append tap bit line last i low within =
    rw (earlier-append line last i tap within low, earlier-append line last i 23 within (omega arith)) refl

-- a list goes on by one bit
front : (bits : List Bool) (last : Bool) (i : ℕ) → i < length bits → bit_at_place (bits ++ last ∷ []) i ≡ bit_at_place bits i
front bits last i within = grind (arith, common_steps)

end : (bits : List Bool) (last : Bool) (i : ℕ) → i ≡ length bits → bit_at_place (bits ++ last ∷ []) i ≡ last
end bits last i e = grind (arith, common_steps)

-- the line goes on by one bit
pub Scrambles-more : (tap : ℕ) (input line : List Bool) (bit sent : Bool) → 1 ≤ tap → Scrambles tap input line
    → sent ≡ turned_at tap bit line (length line)
    → Scrambles tap (input ++ bit ∷ []) (line ++ sent ∷ [])
Scrambles-more tap input line bit sent low h e = record {
  lengths = omega (arith, h.lengths, length-append {A = Bool});
  each = λ i within. at i within (cases_lt i (length input));
}
  where
    at : (i : ℕ) → i < length (input ++ bit ∷ []) → (i < length input) ⊎ (length input ≤ i)
        → bit_at_place (line ++ sent ∷ []) i ≡ turned_at tap (bit_at_place (input ++ bit ∷ []) i) (line ++ sent ∷ []) i
    at i within (inl before) =
        rw (
          front line sent i (omega (arith, h.lengths)),
          front input bit i before,
          turned-append tap (bit_at_place input i) line sent i low (omega (arith, h.lengths)),
        ) (h.each i before)
    at i within (inr last) =
        let place : i ≡ length line = omega (arith, h.lengths, length-append {A = Bool}) in
        rw (end line sent i place, end input bit i (omega (arith, h.lengths)), turned-append tap bit line sent i low (omega arith), place) e

-- the output goes on by one bit
pub Descrambles-more : (tap : ℕ) (line output : List Bool) (bit read : Bool) → 1 ≤ tap → Descrambles tap line output
    → read ≡ turned_at tap bit line (length line)
    → Descrambles tap (line ++ bit ∷ []) (output ++ read ∷ [])
Descrambles-more tap line output bit read low h e = record {
  lengths = omega (arith, h.lengths, length-append {A = Bool});
  each = λ i within. at i within (cases_lt i (length line));
}
  where
    at : (i : ℕ) → i < length (line ++ bit ∷ []) → (i < length line) ⊎ (length line ≤ i)
        → bit_at_place (output ++ read ∷ []) i ≡ turned_at tap (bit_at_place (line ++ bit ∷ []) i) (line ++ bit ∷ []) i
    at i within (inl before) =
        rw (
          front output read i (omega (arith, h.lengths)),
          front line bit i before,
          turned-append tap (bit_at_place line i) line bit i low (omega arith),
        ) (h.each i before)
    at i within (inr last) =
        let place : i ≡ length line = omega (arith, length-append {A = Bool}) in
        rw (end output read i (omega (arith, h.lengths)), end line bit i place, turned-append tap bit line bit i low (omega arith), place) e

-- what is written in four places, the bits of which are these: the taps lie before the first of them
pub record AreTurned (tap : ℕ) (line : List Bool) (b0 b1 b2 b3 t0 t1 t2 t3 : Bool) : Type 0 where
  pub far : 4 ≤ tap
  pub first : t0 ≡ xor (xor b0 (earlier line (length line) tap)) (earlier line (length line) 23)
  pub second : t1 ≡ xor (xor b1 (earlier line (length line) (tap - 1))) (earlier line (length line) 22)
  pub third : t2 ≡ xor (xor b2 (earlier line (length line) (tap - 2))) (earlier line (length line) 21)
  pub fourth : t3 ≡ xor (xor b3 (earlier line (length line) (tap - 3))) (earlier line (length line) 20)

-- the same places, seen from behind one, two and three more bits
behind-one : (tap : ℕ) (bit : Bool) (line : List Bool) (x : Bool) → 2 ≤ tap
    → turned_at tap bit (line ++ x ∷ []) (length (line ++ x ∷ [])) ≡ xor (xor bit (earlier line (length line) (tap - 1)))
    (earlier line (length line) 22)
behind-one tap bit line x far = rw (earlier-less line x tap far, earlier-less line x 23 (omega arith)) refl

behind-two : (tap : ℕ) (bit : Bool) (line : List Bool) (x y : Bool) → 3 ≤ tap
    → turned_at tap bit ((line ++ x ∷ []) ++ y ∷ []) (length ((line ++ x ∷ []) ++ y ∷ [])) ≡ xor
    (xor bit (earlier line (length line) (tap - 2))) (earlier line (length line) 21)
behind-two tap bit line x y far =
    let less : tap - 1 - 1 ≡ tap - 2 = omega arith in
    behind-one tap bit (line ++ x ∷ []) y (omega arith)
    ∙ ap (λ e. xor (xor bit e) (earlier (line ++ x ∷ []) (length (line ++ x ∷ [])) 22))
    (earlier-less line x (tap - 1) (omega arith) ∙ ap (earlier line (length line)) less)
    ∙ ap (λ e. xor (xor bit (earlier line (length line) (tap - 2))) e) (earlier-less line x 22 (omega arith))

behind-three : (tap : ℕ) (bit : Bool) (line : List Bool) (x y z : Bool) → 4 ≤ tap
    → turned_at tap bit (((line ++ x ∷ []) ++ y ∷ []) ++ z ∷ []) (length (((line ++ x ∷ []) ++ y ∷ []) ++ z ∷ [])) ≡ xor
    (xor bit (earlier line (length line) (tap - 3))) (earlier line (length line) 20)
behind-three tap bit line x y z far =
    let less : tap - 2 - 1 ≡ tap - 3 = omega arith in
    behind-two tap bit (line ++ x ∷ []) y z (omega arith)
    ∙ ap (λ e. xor (xor bit e) (earlier (line ++ x ∷ []) (length (line ++ x ∷ [])) 21))
    (earlier-less line x (tap - 2) (omega arith) ∙ ap (earlier line (length line)) less)
    ∙ ap (λ e. xor (xor bit (earlier line (length line) (tap - 3))) e) (earlier-less line x 21 (omega arith))

-- the line goes on by four bits
pub Scrambles-four : (tap : ℕ) (input line : List Bool) (b0 b1 b2 b3 t0 t1 t2 t3 : Bool) → Scrambles tap input line
    → AreTurned tap line b0 b1 b2 b3 t0 t1 t2 t3
    → Scrambles tap (input ++ b0 ∷ b1 ∷ b2 ∷ b3 ∷ []) (line ++ t0 ∷ t1 ∷ t2 ∷ t3 ∷ [])
Scrambles-four tap input line b0 b1 b2 b3 t0 t1 t2 t3 h t =
    let low : 1 ≤ tap = omega (arith, t.far) in
    let one = Scrambles-more tap input line b0 t0 low h t.first in
    let two = Scrambles-more tap _ _ b1 t1 low one (t.second ∙ sym (behind-one tap b1 line t0 (omega (arith, t.far)))) in
    let three = Scrambles-more tap _ _ b2 t2 low two (t.third ∙ sym (behind-two tap b2 line t0 t1 (omega (arith, t.far)))) in
    let four = Scrambles-more tap _ _ b3 t3 low three (t.fourth ∙ sym (behind-three tap b3 line t0 t1 t2 t.far)) in
    subst (Scrambles tap (input ++ b0 ∷ b1 ∷ b2 ∷ b3 ∷ [])) (four-behind line t0 t1 t2 t3)
    (subst (λ (i : List Bool). Scrambles tap i ((((line ++ t0 ∷ []) ++ t1 ∷ []) ++ t2 ∷ []) ++ t3 ∷ []))
    (four-behind input b0 b1 b2 b3) four)

-- the output goes on by four bits
pub Descrambles-four : (tap : ℕ) (line output : List Bool) (b0 b1 b2 b3 t0 t1 t2 t3 : Bool) → Descrambles tap line output
    → AreTurned tap line b0 b1 b2 b3 t0 t1 t2 t3
    → Descrambles tap (line ++ b0 ∷ b1 ∷ b2 ∷ b3 ∷ []) (output ++ t0 ∷ t1 ∷ t2 ∷ t3 ∷ [])
Descrambles-four tap line output b0 b1 b2 b3 t0 t1 t2 t3 h t =
    let low : 1 ≤ tap = omega (arith, t.far) in
    let one = Descrambles-more tap line output b0 t0 low h t.first in
    let two = Descrambles-more tap _ _ b1 t1 low one (t.second ∙ sym (behind-one tap b1 line b0 (omega (arith, t.far)))) in
    let three = Descrambles-more tap _ _ b2 t2 low two (t.third ∙ sym (behind-two tap b2 line b0 b1 (omega (arith, t.far)))) in
    let four = Descrambles-more tap _ _ b3 t3 low three (t.fourth ∙ sym (behind-three tap b3 line b0 b1 b2 t.far)) in
    subst (Descrambles tap (line ++ b0 ∷ b1 ∷ b2 ∷ b3 ∷ [])) (four-behind output t0 t1 t2 t3)
    (subst (λ (l : List Bool). Descrambles tap l ((((output ++ t0 ∷ []) ++ t1 ∷ []) ++ t2 ∷ []) ++ t3 ∷ []))
    (four-behind line b0 b1 b2 b3) four)
