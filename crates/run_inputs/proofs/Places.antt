-- Eight words, each by its place.
use Rattle.run_inputs.proofs.Names.{◌≡◌, ◌≤◌, List, [], ◌∷◌, length, sym, arith}
use Rattle.std.proofs.Common.{◌<◌, slice_index_or}

pub eight : {A : Type 0} (words : List A) (a b c d e f g h : A) → 8 ≤ length words → length words < 9
    → a ≡ slice_index_or words 0 a → b ≡ slice_index_or words 1 b → c ≡ slice_index_or words 2 c → d ≡ slice_index_or words 3 d
    → e ≡ slice_index_or words 4 e → f ≡ slice_index_or words 5 f → g ≡ slice_index_or words 6 g → h ≡ slice_index_or words 7 h
    → words ≡ a ∷ b ∷ c ∷ d ∷ e ∷ f ∷ g ∷ h ∷ []
eight [] a b c d e f g h low high e0 e1 e2 e3 e4 e5 e6 e7 = absurd (omega (arith, low))
eight (w0 ∷ []) a b c d e f g h low high e0 e1 e2 e3 e4 e5 e6 e7 = absurd (omega (arith, low))
eight (w0 ∷ w1 ∷ []) a b c d e f g h low high e0 e1 e2 e3 e4 e5 e6 e7 = absurd (omega (arith, low))
eight (w0 ∷ w1 ∷ w2 ∷ []) a b c d e f g h low high e0 e1 e2 e3 e4 e5 e6 e7 = absurd (omega (arith, low))
eight (w0 ∷ w1 ∷ w2 ∷ w3 ∷ []) a b c d e f g h low high e0 e1 e2 e3 e4 e5 e6 e7 = absurd (omega (arith, low))
eight (w0 ∷ w1 ∷ w2 ∷ w3 ∷ w4 ∷ []) a b c d e f g h low high e0 e1 e2 e3 e4 e5 e6 e7 = absurd (omega (arith, low))
eight (w0 ∷ w1 ∷ w2 ∷ w3 ∷ w4 ∷ w5 ∷ []) a b c d e f g h low high e0 e1 e2 e3 e4 e5 e6 e7 = absurd (omega (arith, low))
eight (w0 ∷ w1 ∷ w2 ∷ w3 ∷ w4 ∷ w5 ∷ w6 ∷ []) a b c d e f g h low high e0 e1 e2 e3 e4 e5 e6 e7 = absurd (omega (arith, low))
eight (w0 ∷ w1 ∷ w2 ∷ w3 ∷ w4 ∷ w5 ∷ w6 ∷ w7 ∷ []) a b c d e f g h low high e0 e1 e2 e3 e4 e5 e6 e7 =
    λ k. sym e0 k ∷ sym e1 k ∷ sym e2 k ∷ sym e3 k ∷ sym e4 k ∷ sym e5 k ∷ sym e6 k ∷ sym e7 k ∷ []
eight (w0 ∷ w1 ∷ w2 ∷ w3 ∷ w4 ∷ w5 ∷ w6 ∷ w7 ∷ w8 ∷ rest) a b c d e f g h low high e0 e1 e2 e3 e4 e5 e6 e7 = absurd (omega (arith, high))
