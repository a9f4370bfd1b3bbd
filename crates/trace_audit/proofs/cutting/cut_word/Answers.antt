use Rattle.trace_audit.proofs.Cited.{◌∙◌, refl, is_no_space}
use Rattle.trace_audit.proofs.Fronts.{cut-front, cut-rest, whole-front, whole-rest}
use Rattle.trace_audit.proofs.cutting.cut_word.Goals as goal

pub returns-then-octet-eq32-clause-front : goal.returns-then-octet-eq32-clause-front
returns-then-octet-eq32-clause-front c =
    c.split_at.ensures.front ∙ cut-front is_no_space c.args.text.now c.loop-at.at c.loop-at-test.true c.loop-at.invariant
    (rw c.if-octet-eq32.true refl)

pub returns-then-octet-eq32-clause-rest : goal.returns-then-octet-eq32-clause-rest
returns-then-octet-eq32-clause-rest c =
    c.split_at.ensures.back ∙ cut-rest is_no_space c.args.text.now c.loop-at.at c.loop-at-test.true c.loop-at.invariant
    (rw c.if-octet-eq32.true refl)

pub returns-clause-front : goal.returns-clause-front
returns-clause-front c = whole-front is_no_space c.args.text.now c.loop-at.at c.loop-at-test.false c.loop-at.invariant

pub returns-clause-rest : goal.returns-clause-rest
returns-clause-rest c = whole-rest is_no_space c.args.text.now c.loop-at.at c.loop-at-test.false c.loop-at.invariant
