use Rattle.exact_decoder.proofs.Names.{◌≡◌, ℕ, ◌+◌, List, ◌++◌, [], ◌∷◌, take, slice_index, refl, sym, subst, arith, zip2, pick_l}
use Rattle.exact_decoder.proofs.Names.{choice_at, choice_by}
use Rattle.exact_decoder.proofs.Vectors.{lanes, lanes-are, each_of_eight}
use Rattle.exact_decoder.proofs.v32.table_of.Goals as goal

abbrev table : List ℕ → List ℕ → List ℕ
table before labels = pick_l 0 (take 8 before ++ take 8 labels)
    (0 ∷ 1 ∷ 2 ∷ 3 ∷ 4 ∷ 5 ∷ 6 ∷ 7 ∷ 8 ∷ 9 ∷ 10 ∷ 11 ∷ 12 ∷ 13 ∷ 14 ∷ 15 ∷ [])

abbrev HasBefore : List ℕ → List ℕ → ℕ → Type 0
HasBefore before labels s = slice_index (table before labels) s ≡ (choice_at (zip2 choice_by before labels) s).before

abbrev HasLabel : List ℕ → List ℕ → ℕ → Type 0
HasLabel before labels s = slice_index (table before labels) (s + 8) ≡ (choice_at (zip2 choice_by before labels) s).label

pub returns-clause-before : goal.returns-clause-before
returns-clause-before c s l =
    let before = c.args.column.now.before in
    let labels = c.args.column.now.labels in
    subst (λ xs. HasBefore xs labels s) (sym (lanes-are before (omega arith)))
    (subst (λ ys. HasBefore (lanes before) ys s) (sym (lanes-are labels (omega arith)))
    (each_of_eight (HasBefore (lanes before) (lanes labels)) refl refl refl refl refl refl refl refl s l))

pub returns-clause-labels : goal.returns-clause-labels
returns-clause-labels c s l =
    let before = c.args.column.now.before in
    let labels = c.args.column.now.labels in
    subst (λ xs. HasLabel xs labels s) (sym (lanes-are before (omega arith)))
    (subst (λ ys. HasLabel (lanes before) ys s) (sym (lanes-are labels (omega arith)))
    (each_of_eight (HasLabel (lanes before) (lanes labels)) refl refl refl refl refl refl refl refl s l))
