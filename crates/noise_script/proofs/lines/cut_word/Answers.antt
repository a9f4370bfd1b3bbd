use Rattle.std.proofs.Common.{sym, ◌∙◌}
use Rattle.noise_script.proofs.Cuts.{word-cut-at, word-whole}
use Rattle.noise_script.proofs.lines.cut_word.Goals as goal

pub returns-then-is_blank-clause-words : goal.returns-then-is_blank-clause-words
returns-then-is_blank-clause-words c =
    word-cut-at c.args.line.now c.loop-at.at _ _ c.requires c.loop-at-test.true c.loop-at.invariant
    (sym c.is_blank.ensures ∙ c.if-is_blank.true) c.split_at.ensures.front c.split_at.ensures.back

pub returns-clause-words : goal.returns-clause-words
returns-clause-words c = word-whole c.args.line.now c.loop-at.at c.requires c.loop-at-test.false c.loop-at.invariant
