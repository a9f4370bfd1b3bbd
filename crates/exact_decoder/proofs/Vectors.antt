-- Lanes of vectors.
use Rattle.exact_decoder.proofs.Names.{◌≡◌, ℕ, ◌+◌, ◌*◌, ◌<◌, List, [], ◌∷◌, ◌++◌, length, slice_index, arith, refl, ap, ◌∙◌}
use Rattle.exact_decoder.proofs.Names.{pick_l, words}

-- a function of two vectors
pub both : {A : Type 0} (f : List ℕ → List ℕ → A) (a p b q : List ℕ) → a ≡ p → b ≡ q → f a b ≡ f p q
both f a p b q e g = ap (λ v. f v b) e ∙ ap (f p) g

-- a vector's lanes in another order
pub turned : (places v w : List ℕ) → v ≡ w → pick_l 0 (v ++ v) places ≡ pick_l 0 (w ++ w) places
turned places v w e = ap (λ u. pick_l 0 (u ++ u) places) e

-- four lanes that are each equal
pub four : (a b c d p q r s : ℕ) → a ≡ p → b ≡ q → c ≡ r → d ≡ s → (a ∷ b ∷ c ∷ d ∷ []) ≡ (p ∷ q ∷ r ∷ s ∷ [])
four a b c d p q r s e f g h = grind (arith)

-- eight lanes that are each equal
pub eight : (a b c d e f g h p q r s t u v w : ℕ) → a ≡ p → b ≡ q → c ≡ r → d ≡ s → e ≡ t → f ≡ u → g ≡ v → h ≡ w
    → (a ∷ b ∷ c ∷ d ∷ e ∷ f ∷ g ∷ h ∷ []) ≡ (p ∷ q ∷ r ∷ s ∷ t ∷ u ∷ v ∷ w ∷ [])
eight a b c d e f g h p q r s t u v w i j k l m n o z = grind (arith)

-- what holds of each of four, and of each of eight
pub each_of_four : (P : ℕ → Type 0) → P 0 → P 1 → P 2 → P 3 → (i : ℕ) → i < 4 → P i
each_of_four P a b c d i l = grind (arith)

pub each_of_eight : (P : ℕ → Type 0) → P 0 → P 1 → P 2 → P 3 → P 4 → P 5 → P 6 → P 7 → (i : ℕ) → i < 8 → P i
each_of_eight P a b c d e f g h i l = grind (arith, each_of_four)

-- a list of eight
abbrev pub lanes : List ℕ → List ℕ
lanes xs = slice_index xs 0 ∷ slice_index xs 1 ∷ slice_index xs 2 ∷ slice_index xs 3 ∷ slice_index xs 4 ∷ slice_index xs 5
    ∷ slice_index xs 6 ∷ slice_index xs 7 ∷ []

pub lanes-are : (xs : List ℕ) → length xs ≡ 8 → xs ≡ lanes xs
lanes-are [] long = absurd (omega arith)
lanes-are (a ∷ []) long = absurd (omega arith)
lanes-are (a ∷ b ∷ []) long = absurd (omega arith)
lanes-are (a ∷ b ∷ c ∷ []) long = absurd (omega arith)
lanes-are (a ∷ b ∷ c ∷ d ∷ []) long = absurd (omega arith)
lanes-are (a ∷ b ∷ c ∷ d ∷ e ∷ []) long = absurd (omega arith)
lanes-are (a ∷ b ∷ c ∷ d ∷ e ∷ f ∷ []) long = absurd (omega arith)
lanes-are (a ∷ b ∷ c ∷ d ∷ e ∷ f ∷ g ∷ []) long = absurd (omega arith)
lanes-are (a ∷ b ∷ c ∷ d ∷ e ∷ f ∷ g ∷ h ∷ []) long = refl
lanes-are (a ∷ b ∷ c ∷ d ∷ e ∷ f ∷ g ∷ h ∷ i ∷ more) long = absurd (omega arith)

-- sums of which keys of 32 bits have each
pub words-are : (sums : List ℕ) (a b c d e f g h : ℕ) → length sums ≡ 8 → slice_index sums 0 ≡ 268435456 * a + 0
    → slice_index sums 1 ≡ 268435456 * b + 1 → slice_index sums 2 ≡ 268435456 * c + 2 → slice_index sums 3 ≡ 268435456 * d + 3
    → slice_index sums 4 ≡ 268435456 * e + 4 → slice_index sums 5 ≡ 268435456 * f + 5 → slice_index sums 6 ≡ 268435456 * g + 6
    → slice_index sums 7 ≡ 268435456 * h + 7 → sums ≡ words a b c d e f g h
words-are sums a b c d e f g h long i j k l m n o p = lanes-are sums long ∙ eight _ _ _ _ _ _ _ _ _ _ _ _ _ _ _ _ i j k l m n o p
