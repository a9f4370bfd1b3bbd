use Rattle.exact_decoder.proofs.Names.{◌≡◌, ℕ, ◌+◌, ◌%◌, ◌<◌, List, [], ◌∷◌, ◌++◌, arith, ap, ◌∙◌, zip2, pick_l}
use Rattle.exact_decoder.proofs.Vectors.{eight}
use Rattle.exact_decoder.proofs.v32.places_of.Goals as goal

abbrev moved : List ℕ → List ℕ
moved v = zip2 (λ x y. (x + y) % 256)
    (pick_l 0 (v ++ v) (0 ∷ 1 ∷ 2 ∷ 3 ∷ 4 ∷ 5 ∷ 6 ∷ 7 ∷ 0 ∷ 1 ∷ 2 ∷ 3 ∷ 4 ∷ 5 ∷ 6 ∷ 7 ∷ []))
    (0 ∷ 0 ∷ 0 ∷ 0 ∷ 0 ∷ 0 ∷ 0 ∷ 0 ∷ 8 ∷ 8 ∷ 8 ∷ 8 ∷ 8 ∷ 8 ∷ 8 ∷ 8 ∷ [])

head : (x y : ℕ) (xs ys : List ℕ) → x ≡ y → xs ≡ ys → (x ∷ xs) ≡ (y ∷ ys)
head x y xs ys e f = ap (λ z. z ∷ xs) e ∙ ap (λ zs. y ∷ zs) f

stays : (x : ℕ) → x < 8 → (x + 0) % 256 ≡ x
stays x h = omega arith

more : (x : ℕ) → x < 8 → (x + 8) % 256 ≡ x + 8
more x h = omega arith

pub returns : goal.returns
returns k a b c d e f g h is la lb lc ld le lf lg lh =
    ap moved is ∙ head _ _ _ _ (stays a la) (head _ _ _ _ (stays b lb) (head _ _ _ _ (stays c lc) (head _ _ _ _ (stays d ld)
    (head _ _ _ _ (stays e le) (head _ _ _ _ (stays f lf) (head _ _ _ _ (stays g lg) (head _ _ _ _ (stays h lh)
    (eight _ _ _ _ _ _ _ _ _ _ _ _ _ _ _ _ (more a la) (more b lb) (more c lc) (more d ld) (more e le) (more f lf) (more g lg) (more h lh)
    ))))))))
