use Rattle.exact_decoder.proofs.Names.{◌≡◌, ℕ, min, [], ◌∷◌, refl, ◌∙◌, arith, zip2}
use Rattle.exact_decoder.proofs.Vectors.{both, turned, four}
use Rattle.exact_decoder.proofs.v32.least_in.Goals as goal

all : (a b c d p q r s : ℕ) → let x = min (min (min a p) (min c r)) (min (min b q) (min d s)) in
    (min (min (min a p) (min c r)) (min (min b q) (min d s)) ∷ min (min (min b q) (min d s)) (min (min a p) (min c r))
    ∷ min (min (min c r) (min a p)) (min (min d s) (min b q)) ∷ min (min (min d s) (min b q)) (min (min c r) (min a p)) ∷ []) ≡
    (x ∷ x ∷ x ∷ x ∷ [])
all a b c d p q r s = four _ _ _ _ _ _ _ _ refl (omega arith) (omega arith) (omega arith)

pub returns : goal.returns
returns c' a b c d p q r s el eh =
    let t = c'.lesser-of_two.ensures ∙ both (zip2 min) _ _ _ _ el eh in
    let f = c'.lesser-of_four.ensures ∙ both (zip2 min) _ _ _ _ t (turned (2 ∷ 3 ∷ 0 ∷ 1 ∷ []) _ _ t) in
    let g = c'.lesser.ensures ∙ both (zip2 min) _ _ _ _ f (turned (1 ∷ 0 ∷ 3 ∷ 2 ∷ []) _ _ f) in grind (arith)
