-- Lists of labels that are turned, and turned back.
use Rattle.line_coding.proofs.Names.{◌≡◌, ℕ, suc, ◌<◌, Bool, true, List, [], ◌∷◌, map, nat_eq, refl, arith, ◌∙◌, ap, subst, All}
use Rattle.line_coding.proofs.Names.{turned_label}
use Rattle.std.proofs.lemmas.Bool.{eqb-true}
use Rattle.std.proofs.lemmas.List.Elements.{All-cons}
use Rattle.symbol_map.specs.Finite.{each_below, at_each}
use Rattle.trellis_tables.specs.Sequences.{Leads}
use Rattle.trellis_tables.specs.Table.{next_state}
use Rattle.trellis_tables.specs.V32Laws.{v32_bounded, v32_within}
use Rattle.line_coding.specs.TurnedLaws.{LabelsComeBack}

-- the label that turns to this one
abbrev pub turned_back : ℕ → ℕ
turned_back label = turned_label (turned_label (turned_label label))

abbrev comes_back : ℕ → Bool
comes_back label = nat_eq (turned_label (turned_back label)) label

back_test : each_below 32 comes_back ≡ true
back_test = refl

pub labels_come_back : LabelsComeBack
labels_come_back label h = eqb-true (turned_label (turned_back label)) label (at_each 32 comes_back back_test label h)

-- the labels of branches are labels, and they lead to states
pub labels-small : (from to : ℕ) (labels : List ℕ) → Leads next_state from labels to → All (λ label. label < 32) labels
labels-small from to [] l = λ k d within. absurd (omega arith)
labels-small from to (label ∷ labels) (mid, b, l) = grind (arith, All-cons, labels-small mid to labels l)

pub leads-within : (from to : ℕ) (labels : List ℕ) → from < 8 → Leads next_state from labels to → to < 8
leads-within from to [] in_from e = subst (λ s. s < 8) e in_from
leads-within from to (label ∷ labels) in_from (mid, b, l) =
    let in_table = v32_bounded from label mid b in
    leads-within mid to labels (v32_within from label mid in_table.0 in_table.1 b) l

-- turned back and turned again
pub turned-again : (labels : List ℕ) → All (λ label. label < 32) labels → map turned_label (map turned_back labels) ≡ labels
turned-again [] small = refl
turned-again (label ∷ labels) small =
    ap (λ x. x ∷ map turned_label (map turned_back labels)) (labels_come_back label (small 0 0 (omega arith)))
    ∙ ap (λ xs. label ∷ xs) (turned-again labels (λ k d within. small (suc k) d (omega arith)))

-- a turned label is a label
turned-small : (label : ℕ) → turned_label label < 32
turned-small label = omega arith

pub back-small : (labels : List ℕ) → All (λ label. label < 32) (map turned_back labels)
back-small [] = λ k d within. absurd (omega arith)
back-small (label ∷ labels) = grind (arith, All-cons, turned-small, back-small labels)
