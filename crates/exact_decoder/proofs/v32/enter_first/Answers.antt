use Rattle.exact_decoder.proofs.Names.{[], ◌∷◌, arith}
use Rattle.exact_decoder.proofs.Vectors.{both, turned}
use Rattle.exact_decoder.proofs.v32.enter_first.Goals as goal

pub returns : goal.returns
returns c' a b c d k l m n p q r s ee es eo la lb lc ld lk ll lp lq =
    let e1 = c'.plus.ensures a b c d p p p p ee (turned (0 ∷ 0 ∷ 0 ∷ 0 ∷ []) _ _ eo) (omega arith) (omega arith) (omega arith)
    (omega arith) in
    let e2 = c'.plus-2.ensures d c b a q q q q (turned (3 ∷ 2 ∷ 1 ∷ 0 ∷ []) _ _ ee) (turned (1 ∷ 1 ∷ 1 ∷ 1 ∷ []) _ _ eo) (omega arith)
    (omega arith) (omega arith) (omega arith) in
    let e3 = c'.plus-3.ensures c d a b k k k k (turned (2 ∷ 3 ∷ 0 ∷ 1 ∷ []) _ _ ee) (turned (0 ∷ 0 ∷ 0 ∷ 0 ∷ []) _ _ es) (omega arith)
    (omega arith) (omega arith) (omega arith) in
    let e4 = c'.plus-4.ensures b a d c l l l l (turned (1 ∷ 0 ∷ 3 ∷ 2 ∷ []) _ _ ee) (turned (1 ∷ 1 ∷ 1 ∷ 1 ∷ []) _ _ es) (omega arith)
    (omega arith) (omega arith) (omega arith) in grind (arith, both)
