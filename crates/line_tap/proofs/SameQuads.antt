-- Quads and their bits: each tells the other.
use Rattle.line_tap.proofs.Cited.{◌≡◌, ◌∙◌, ℕ, zero, suc, ◌-◌, ◌<◌, ◌≤◌, Bool, true, false, nat_eq, List, [], ◌∷◌, ◌++◌, length}
use Rattle.line_tap.proofs.Cited.{slice_index, ◌+◌, refl, sym, ap, arith, eqb-true, ◌&&◌, length-line_bits, line_bits, ones, low_bits, Sent}
use Rattle.line_tap.proofs.Cited.{is_plain, plain_bits, each_below, at_each}
use Rattle.std.proofs.lemmas.Bool.{eqb-false}
use Rattle.frame_check.specs.Bits.{number_of}
use Rattle.lapm_frames.specs.declared.seen.Seen.TheVariants as seen
use Rattle.detection.specs.Slots.{pattern_bits}

abbrev comes_back : ℕ → Bool
comes_back quad = nat_eq (number_of (low_bits 4 quad)) quad

comes_back-test : each_below 16 comes_back ≡ true
comes_back-test = refl

back : (quad : ℕ) → quad < 16 → number_of (low_bits 4 quad) ≡ quad
back quad low = eqb-true (number_of (low_bits 4 quad)) quad (at_each 16 comes_back comes_back-test quad low)

same-quad : (a b : ℕ) → a < 16 → b < 16 → low_bits 4 a ≡ low_bits 4 b → a ≡ b
same-quad a b low few e = sym (back a low) ∙ ap number_of e ∙ back b few

-- two halves of equal lengths
halves : (p q r s : List Bool) → length p ≡ length q → p ++ r ≡ q ++ s → (p ≡ q) × (r ≡ s)
halves [] [] r s same e = (refl, e)
halves [] (y ∷ q) r s same e = absurd (omega (arith, same))
halves (x ∷ p) [] r s same e = absurd (omega (arith, same))
halves (x ∷ p) (y ∷ q) r s same e =
    let first : x ≡ y = cc in
    let rest : p ++ r ≡ q ++ s = cc in
    let on = halves p q r s (omega (arith, same)) rest in
    (ap (λ z. z ∷ p) first ∙ ap (λ zs. y ∷ zs) on.0, on.1)

four-at : (n : ℕ) (a b : List ℕ) → n < length a → n < length b → line_bits a ≡ line_bits b
    → low_bits 4 (slice_index a n) ≡ low_bits 4 (slice_index b n)
four-at n [] b h k e = absurd (omega (arith, h))
four-at n (x ∷ a) [] h k e = absurd (omega (arith, k))
four-at zero (x ∷ a) (y ∷ b) h k e = grind (arith)
four-at (suc n) (x ∷ a) (y ∷ b) h k e =
    let all : low_bits 4 x ++ line_bits a ≡ low_bits 4 y ++ line_bits b = e in
    four-at n a b (omega (arith, h)) (omega (arith, k)) (halves (low_bits 4 x) (low_bits 4 y) (line_bits a) (line_bits b) refl all).1

-- a quad that differs
pub quads-differ : (n : ℕ) (a b : List ℕ) → n < length a → n < length b → slice_index a n < 16 → slice_index b n < 16
    → (slice_index a n ≡ slice_index b n → ⊥) → line_bits a ≡ line_bits b → ⊥
quads-differ n a b h k low few differ e = differ (same-quad (slice_index a n) (slice_index b n) low few (four-at n a b h k e))

-- Whether the quads are the same up to a place, as far as they were compared.
pub record AreCompared (same : Bool) (n : ℕ) (a b : List ℕ) : Type 0 where
  pub yes : same ≡ true → (i : ℕ) → i < n → slice_index a i ≡ slice_index b i
  pub no : same ≡ false → line_bits a ≡ line_bits b → ⊥

pub one-compared : (same : Bool) (n : ℕ) (a b : List ℕ) → n < length a → n < length b → slice_index a n < 16 → slice_index b n < 16
    → AreCompared same n a b → AreCompared (same && nat_eq (slice_index a n) (slice_index b n)) (n + 1) a b
one-compared same n a b h k low few so = grind (arith, quads-differ, eqb-false, eqb-true)

-- or another count
pub counts-differ : (a b : List ℕ) → (length a ≡ length b → ⊥) → line_bits a ≡ line_bits b → ⊥
counts-differ a b differ e =
    let same : length (line_bits a) ≡ length (line_bits b) = ap length e in
    differ (omega (arith, same, length-line_bits a, length-line_bits b))

-- eight ones and more
pub begin-ones : (size : ℕ) → 8 ≤ size → ones size ≡ low_bits 4 15 ++ (low_bits 4 15 ++ ones (size - 8))
begin-ones size h =
    let all : size ≡ suc (suc (suc (suc (suc (suc (suc (suc (size - 8)))))))) = omega (arith, h) in
    ap ones all

-- three slots that it isn't
pub none-plain : (size : ℕ) (bits : List Bool) → (bits ≡ ones size → ⊥) → (bits ≡ pattern_bits size seen.Odp → ⊥)
    → (bits ≡ pattern_bits size seen.Adp → ⊥) → (s : Sent) → is_plain s ≡ true → bits ≡ plain_bits size s → ⊥
none-plain size bits a b c other e k = grind (arith)
