-- A list of eleven words, and one of another length.
use Rattle.link_pair.proofs.Names.{◌≡◌, ℕ, ◌<◌, ◌≤◌, List, [], ◌∷◌, length, map, None, refl, sym, arith, names_of}
use Rattle.std.proofs.Common.{slice_index_or}

-- fewer words, or more, are no pair's
pub none-few : {A : Type 0} (f : A → List ℕ) (ws : List A) → length ws < 11 → names_of (map f ws) ≡ None
none-few f [] l = refl
none-few f (w0 ∷ []) l = refl
none-few f (w0 ∷ w1 ∷ []) l = refl
none-few f (w0 ∷ w1 ∷ w2 ∷ []) l = refl
none-few f (w0 ∷ w1 ∷ w2 ∷ w3 ∷ []) l = refl
none-few f (w0 ∷ w1 ∷ w2 ∷ w3 ∷ w4 ∷ []) l = refl
none-few f (w0 ∷ w1 ∷ w2 ∷ w3 ∷ w4 ∷ w5 ∷ []) l = refl
none-few f (w0 ∷ w1 ∷ w2 ∷ w3 ∷ w4 ∷ w5 ∷ w6 ∷ []) l = refl
none-few f (w0 ∷ w1 ∷ w2 ∷ w3 ∷ w4 ∷ w5 ∷ w6 ∷ w7 ∷ []) l = refl
none-few f (w0 ∷ w1 ∷ w2 ∷ w3 ∷ w4 ∷ w5 ∷ w6 ∷ w7 ∷ w8 ∷ []) l = refl
none-few f (w0 ∷ w1 ∷ w2 ∷ w3 ∷ w4 ∷ w5 ∷ w6 ∷ w7 ∷ w8 ∷ w9 ∷ []) l = refl
none-few f (w0 ∷ w1 ∷ w2 ∷ w3 ∷ w4 ∷ w5 ∷ w6 ∷ w7 ∷ w8 ∷ w9 ∷ w10 ∷ ws) l = absurd (omega (arith, l))

pub none-many : {A : Type 0} (f : A → List ℕ) (ws : List A) → 12 ≤ length ws → names_of (map f ws) ≡ None
none-many f [] l = absurd (omega (arith, l))
none-many f (w0 ∷ []) l = absurd (omega (arith, l))
none-many f (w0 ∷ w1 ∷ []) l = absurd (omega (arith, l))
none-many f (w0 ∷ w1 ∷ w2 ∷ []) l = absurd (omega (arith, l))
none-many f (w0 ∷ w1 ∷ w2 ∷ w3 ∷ []) l = absurd (omega (arith, l))
none-many f (w0 ∷ w1 ∷ w2 ∷ w3 ∷ w4 ∷ []) l = absurd (omega (arith, l))
none-many f (w0 ∷ w1 ∷ w2 ∷ w3 ∷ w4 ∷ w5 ∷ []) l = absurd (omega (arith, l))
none-many f (w0 ∷ w1 ∷ w2 ∷ w3 ∷ w4 ∷ w5 ∷ w6 ∷ []) l = absurd (omega (arith, l))
none-many f (w0 ∷ w1 ∷ w2 ∷ w3 ∷ w4 ∷ w5 ∷ w6 ∷ w7 ∷ []) l = absurd (omega (arith, l))
none-many f (w0 ∷ w1 ∷ w2 ∷ w3 ∷ w4 ∷ w5 ∷ w6 ∷ w7 ∷ w8 ∷ []) l = absurd (omega (arith, l))
none-many f (w0 ∷ w1 ∷ w2 ∷ w3 ∷ w4 ∷ w5 ∷ w6 ∷ w7 ∷ w8 ∷ w9 ∷ []) l = absurd (omega (arith, l))
none-many f (w0 ∷ w1 ∷ w2 ∷ w3 ∷ w4 ∷ w5 ∷ w6 ∷ w7 ∷ w8 ∷ w9 ∷ w10 ∷ []) l = absurd (omega (arith, l))
none-many f (w0 ∷ w1 ∷ w2 ∷ w3 ∷ w4 ∷ w5 ∷ w6 ∷ w7 ∷ w8 ∷ w9 ∷ w10 ∷ w11 ∷ ws) l = refl

-- the words by their places
pub listed : {A : Type 0} (ws : List A) (d0 d1 d2 d3 d4 d5 d6 d7 d8 d9 d10 : A) → 11 ≤ length ws → length ws < 12
    → d0 ≡ slice_index_or ws 0 d0
    → d1 ≡ slice_index_or ws 1 d1
    → d2 ≡ slice_index_or ws 2 d2
    → d3 ≡ slice_index_or ws 3 d3
    → d4 ≡ slice_index_or ws 4 d4
    → d5 ≡ slice_index_or ws 5 d5
    → d6 ≡ slice_index_or ws 6 d6
    → d7 ≡ slice_index_or ws 7 d7
    → d8 ≡ slice_index_or ws 8 d8
    → d9 ≡ slice_index_or ws 9 d9
    → d10 ≡ slice_index_or ws 10 d10
    → ws ≡ d0 ∷ d1 ∷ d2 ∷ d3 ∷ d4 ∷ d5 ∷ d6 ∷ d7 ∷ d8 ∷ d9 ∷ d10 ∷ []
listed [] d0 d1 d2 d3 d4 d5 d6 d7 d8 d9 d10 l m e0 e1 e2 e3 e4 e5 e6 e7 e8 e9 e10 = absurd (omega (arith, l))
listed (w0 ∷ []) d0 d1 d2 d3 d4 d5 d6 d7 d8 d9 d10 l m e0 e1 e2 e3 e4 e5 e6 e7 e8 e9 e10 = absurd (omega (arith, l))
listed (w0 ∷ w1 ∷ []) d0 d1 d2 d3 d4 d5 d6 d7 d8 d9 d10 l m e0 e1 e2 e3 e4 e5 e6 e7 e8 e9 e10 = absurd (omega (arith, l))
listed (w0 ∷ w1 ∷ w2 ∷ []) d0 d1 d2 d3 d4 d5 d6 d7 d8 d9 d10 l m e0 e1 e2 e3 e4 e5 e6 e7 e8 e9 e10 = absurd (omega (arith, l))
listed (w0 ∷ w1 ∷ w2 ∷ w3 ∷ []) d0 d1 d2 d3 d4 d5 d6 d7 d8 d9 d10 l m e0 e1 e2 e3 e4 e5 e6 e7 e8 e9 e10 = absurd (omega (arith, l))
listed (w0 ∷ w1 ∷ w2 ∷ w3 ∷ w4 ∷ []) d0 d1 d2 d3 d4 d5 d6 d7 d8 d9 d10 l m e0 e1 e2 e3 e4 e5 e6 e7 e8 e9 e10 = absurd (omega (arith, l))
listed (w0 ∷ w1 ∷ w2 ∷ w3 ∷ w4 ∷ w5 ∷ []) d0 d1 d2 d3 d4 d5 d6 d7 d8 d9 d10 l m e0 e1 e2 e3 e4 e5 e6 e7 e8 e9 e10 = grind (arith)
listed (w0 ∷ w1 ∷ w2 ∷ w3 ∷ w4 ∷ w5 ∷ w6 ∷ []) d0 d1 d2 d3 d4 d5 d6 d7 d8 d9 d10 l m e0 e1 e2 e3 e4 e5 e6 e7 e8 e9 e10 = grind (arith)
listed (w0 ∷ w1 ∷ w2 ∷ w3 ∷ w4 ∷ w5 ∷ w6 ∷ w7 ∷ []) d0 d1 d2 d3 d4 d5 d6 d7 d8 d9 d10 l m e0 e1 e2 e3 e4 e5 e6 e7 e8 e9 e10 = grind (arith)
listed (w0 ∷ w1 ∷ w2 ∷ w3 ∷ w4 ∷ w5 ∷ w6 ∷ w7 ∷ w8 ∷ []) d0 d1 d2 d3 d4 d5 d6 d7 d8 d9 d10 l m e0 e1 e2 e3 e4 e5 e6 e7 e8 e9 e10 = absurd
    (omega (arith, l))
listed (w0 ∷ w1 ∷ w2 ∷ w3 ∷ w4 ∷ w5 ∷ w6 ∷ w7 ∷ w8 ∷ w9 ∷ []) d0 d1 d2 d3 d4 d5 d6 d7 d8 d9 d10 l m e0 e1 e2 e3 e4 e5 e6 e7 e8 e9 e10 =
    absurd (omega (arith, l))
listed (w0 ∷ w1 ∷ w2 ∷ w3 ∷ w4 ∷ w5 ∷ w6 ∷ w7 ∷ w8 ∷ w9 ∷ w10 ∷ []) d0 d1 d2 d3 d4 d5 d6 d7 d8 d9 d10 l m e0 e1 e2 e3 e4 e5 e6 e7 e8 e9
    e10 =
    λ k. sym e0 k ∷ sym e1 k ∷ sym e2 k ∷ sym e3 k ∷ sym e4 k ∷ sym e5 k ∷ sym e6 k ∷ sym e7 k ∷ sym e8 k ∷ sym e9 k ∷ sym e10 k ∷ []
listed (w0 ∷ w1 ∷ w2 ∷ w3 ∷ w4 ∷ w5 ∷ w6 ∷ w7 ∷ w8 ∷ w9 ∷ w10 ∷ w11 ∷ ws) d0 d1 d2 d3 d4 d5 d6 d7 d8 d9 d10 l m e0 e1 e2 e3 e4 e5 e6 e7 e8
    e9 e10 = absurd (omega (arith, m))
