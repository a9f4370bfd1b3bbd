use Rattle.line_tap.proofs.Cited.{◌≡◌, ◌∙◌, Some, None, sym, ap, subst, NoStep, next_state}
use Rattle.std.proofs.Common.{IfNone}
use Rattle.trellis_tables.specs.V32Laws.{v32_within}
use Rattle.line_tap.proofs.labels.step_by.Goals as goal

pub returns-in_err-label-clause-none : goal.returns-in_err-label-clause-none
returns-in_err-label-clause-none c =
    let refuted : NoStep c.args.state c.args.sample = λ label to low e next. c.in_err-label.ensures.none label low e in
    subst (λ q. IfNone q (NoStep c.args.state c.args.sample)) (sym c.from_residual.ensures) refuted

pub returns-in_err-to-clause-none : goal.returns-in_err-to-clause-none
returns-in_err-to-clause-none c =
    let refuted : NoStep c.args.state c.args.sample =
    λ label to low e next.
    let none : None ≡ Some to =
    c.in_err-to.ensures ∙ ap (next_state c.args.state) (c.in_ok-label.ensures.only label low e) ∙ next in
    absurd cc in
    subst (λ q. IfNone q (NoStep c.args.state c.args.sample)) (sym c.from_residual-in_err-to.ensures) refuted

pub returns-clause-within : goal.returns-clause-within
returns-clause-within c =
    v32_within c.args.state c.in_ok-label.label c.in_ok-to.to c.requires c.in_ok-label.ensures.small (sym c.in_ok-to.ensures)
