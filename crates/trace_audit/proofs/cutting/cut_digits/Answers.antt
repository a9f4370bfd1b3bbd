use Rattle.trace_audit.proofs.Cited.{◌∙◌, sym, is_digit}
use Rattle.trace_audit.proofs.Fronts.{cut-front, cut-rest, whole-front, whole-rest}
use Rattle.trace_audit.proofs.cutting.cut_digits.Goals as goal

pub returns-then-not-is_ascii_digit-clause-front : goal.returns-then-not-is_ascii_digit-clause-front
returns-then-not-is_ascii_digit-clause-front c =
    c.split_at.ensures.front ∙ cut-front is_digit c.args.text.now c.loop-at.at c.loop-at-test.true c.loop-at.invariant
    (sym c.is_ascii_digit.ensures.value ∙ c.if-not-is_ascii_digit.true)

pub returns-then-not-is_ascii_digit-clause-rest : goal.returns-then-not-is_ascii_digit-clause-rest
returns-then-not-is_ascii_digit-clause-rest c =
    c.split_at.ensures.back ∙ cut-rest is_digit c.args.text.now c.loop-at.at c.loop-at-test.true c.loop-at.invariant
    (sym c.is_ascii_digit.ensures.value ∙ c.if-not-is_ascii_digit.true)

pub returns-clause-front : goal.returns-clause-front
returns-clause-front c = whole-front is_digit c.args.text.now c.loop-at.at c.loop-at-test.false c.loop-at.invariant

pub returns-clause-rest : goal.returns-clause-rest
returns-clause-rest c = whole-rest is_digit c.args.text.now c.loop-at.at c.loop-at-test.false c.loop-at.invariant
