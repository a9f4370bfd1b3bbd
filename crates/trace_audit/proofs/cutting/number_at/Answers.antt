use Rattle.trace_audit.proofs.Cited.{◌∙◌, ap, option_map, plain_number}
use Rattle.trace_audit.proofs.Numbers.{read-none, read-below, read-past}
use Rattle.trace_audit.proofs.cutting.number_at.Goals as goal

pub returns-in_err-number : goal.returns-in_err-number
returns-in_err-number c =
    ap (option_map _) c.from_residual.ensures
    ∙ read-none c.args.bound c.args.text.now (c.in_err-number.ensures ∙ ap plain_number c.cut_digits.ensures.front)

pub returns-then-number-bound : goal.returns-then-number-bound
returns-then-number-bound c =
    read-below c.args.bound c.in_ok-number.number c.args.text.now c.cut_digits.result.1.now
    (c.in_ok-number.ensures ∙ ap plain_number c.cut_digits.ensures.front) c.cut_digits.ensures.rest c.if-number-bound.true

pub returns-else-number-bound : goal.returns-else-number-bound
returns-else-number-bound c =
    read-past c.args.bound c.in_ok-number.number c.args.text.now (c.in_ok-number.ensures ∙ ap plain_number c.cut_digits.ensures.front)
    c.if-number-bound.false
