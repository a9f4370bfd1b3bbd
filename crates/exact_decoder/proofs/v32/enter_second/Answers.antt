use Rattle.exact_decoder.proofs.Names.{[], ◌∷◌, arith}
use Rattle.exact_decoder.proofs.Vectors.{both, turned}
use Rattle.exact_decoder.proofs.v32.enter_second.Goals as goal

pub returns : goal.returns
returns c' a b c d k l m n p q r s eo' es eo la lb lc ld lm ln lr ls =
    let e1 = c'.plus.ensures a d c b m m m m (turned (0 ∷ 3 ∷ 2 ∷ 1 ∷ []) _ _ eo') (turned (2 ∷ 2 ∷ 2 ∷ 2 ∷ []) _ _ es) (omega arith)
    (omega arith) (omega arith) (omega arith) in
    let e2 = c'.plus-2.ensures d a b c n n n n (turned (3 ∷ 0 ∷ 1 ∷ 2 ∷ []) _ _ eo') (turned (3 ∷ 3 ∷ 3 ∷ 3 ∷ []) _ _ es) (omega arith)
    (omega arith) (omega arith) (omega arith) in
    let e3 = c'.plus-3.ensures b c d a r r r r (turned (1 ∷ 2 ∷ 3 ∷ 0 ∷ []) _ _ eo') (turned (2 ∷ 2 ∷ 2 ∷ 2 ∷ []) _ _ eo) (omega arith)
    (omega arith) (omega arith) (omega arith) in
    let e4 = c'.plus-4.ensures c b a d s s s s (turned (2 ∷ 1 ∷ 0 ∷ 3 ∷ []) _ _ eo') (turned (3 ∷ 3 ∷ 3 ∷ 3 ∷ []) _ _ eo) (omega arith)
    (omega arith) (omega arith) (omega arith) in grind (arith, both)
