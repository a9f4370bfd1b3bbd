use Rattle.exact_decoder.proofs.Names.{◌+◌, set, arith, sym, subst, ◌∙◌, length-zip2, choice_by}
use Rattle.exact_decoder.proofs.Settling.{SettledBelow, settled-more, choices-set}
use Rattle.exact_decoder.proofs.choice.settle.Goals as goal

pub loop-to-init : goal.loop-to-init
loop-to-init g c = record {
  sums_long = c.requires.sums;
  column_long = length-zip2 choice_by c.args.column.now.before c.args.column.now.labels (omega arith) ∙ omega arith;
  levels = λ s l. absurd (omega arith);
  choices = λ s l. absurd (omega arith);
}

pub loop-to-preserved : goal.loop-to-preserved
loop-to-preserved g c =
    let column = c.loop-to.column in
    let choice = c.choose-choice.result in
    subst (λ l. SettledBelow g.row.STATES c.args.entered.now c.args.least (set c.loop-to.sums c.loop-to.to c.level.result) l
    (c.loop-to.to + 1)) (sym (choices-set _ _ _ _ _)) (settled-more _ _ _ _ _ _ _ _ (omega arith) c.level.ensures c.choose-choice.ensures
    c.loop-to.invariant)
