use Rattle.exact_decoder.proofs.Names.{ℕ, ◌+◌, ◌-◌, ◌%◌, min, List, [], ◌∷◌, refl, ◌∙◌, arith, zip2}
use Rattle.exact_decoder.proofs.Lanes.{lane-010, lane-011, lane-100, lane-101}
use Rattle.exact_decoder.proofs.Vectors.{both, turned, four}
use Rattle.exact_decoder.proofs.lines.nearest_squares.Goals as goal

abbrev plus : List ℕ → List ℕ → List ℕ
plus = zip2 (λ a b. (a + b) % 4294967296)

pub returns : goal.returns
returns c x y is lx ly =
    let xa = c.line-left.ensures x (65535 - x) x x 512 512 768 256 17825856 17826400 10748032 25428136
    (turned (0 ∷ 1 ∷ 0 ∷ 0 ∷ []) _ _ is) refl refl (omega arith) (omega arith) (omega arith) (omega arith) in
    let xb = c.line-right.ensures (65535 - x) x (65535 - x) (65535 - x) 512 512 256 768 17826384 17825904 25428360 10748832
    (turned (1 ∷ 0 ∷ 1 ∷ 1 ∷ []) _ _ is) refl refl (omega arith) (omega arith) (omega arith) (omega arith) in
    let ya = c.line-above.ensures (65535 - y) (65535 - y) y (65535 - y) 768 256 512 512 10748672 25428232 17825792 17826304
    (turned (3 ∷ 3 ∷ 2 ∷ 3 ∷ []) _ _ is) refl refl (omega arith) (omega arith) (omega arith) (omega arith) in
    let yb = c.line-below.ensures y y (65535 - y) y 256 768 512 512 25427976 10747904 17826320 17825808
    (turned (2 ∷ 2 ∷ 3 ∷ 2 ∷ []) _ _ is) refl refl (omega arith) (omega arith) (omega arith) (omega arith) in
    let l = both (zip2 min) _ _ _ _ xa xb in
    let m = both (zip2 min) _ _ _ _ ya yb in
    both plus _ _ _ _ (c.lesser.ensures ∙ l) (c.lesser-2.ensures ∙ m) ∙ four _ _ _ _ _ _ _ _ (lane-010 _ _ lx ly) (lane-011 _ _ lx ly)
    (lane-100 _ _ lx ly) (lane-101 _ _ lx ly)
