use Rattle.rate_4800.proofs.Names.{◌≡◌, slice_index, arith, ap, ◌∙◌, choice_at, choice_by}
use Rattle.std.proofs.lemmas.Simd.{get_or-zip2}
use Rattle.exact_decoder.specs.Traced.{choices_of}
use Rattle.rate_4800.proofs.step.Rate4800ViterbiStep14.go_back.Goals as goal

pub returns-clause-label : goal.returns-clause-label
returns-clause-label c s l =
    let column = c.args.column.now in
    let here : slice_index c.args.live.now s ≡ 0 = omega (arith, c.requires s l) in
    ap (λ i. (choice_at (choices_of column) i).label) here
    ∙ ap (λ choice. choice.label) (get_or-zip2 choice_by column.before column.labels 0 0 0 (choice_by 0 0) (omega arith) (omega arith))
