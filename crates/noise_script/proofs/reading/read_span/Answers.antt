use Rattle.noise_script.proofs.Names.{◌∷◌, err_from_is_err_and, Number}
use Rattle.noise_script.proofs.Words.{fails-here, fails-later}
use Rattle.noise_script.proofs.reading.read_span.Goals as goal

pub returns-in_err-from-clause-err : goal.returns-in_err-from-clause-err
returns-in_err-from-clause-err c =
    let p = err_from_is_err_and c.from_residual-in_err-from.result c.from_residual-in_err-from.ensures.1 in
    rw (p.1, p.2) (λ more. fails-later _ (Number c.args.from.low c.args.from.high ∷ Number c.args.count.low c.args.count.high ∷ more) _ _ _
    c.in_err-from.field-0.0 c.in_ok-role.ensures (fails-here _ (Number c.args.count.low c.args.count.high ∷ more) _ _
    c.in_err-from.ensures))

pub returns-in_err-count-clause-err : goal.returns-in_err-count-clause-err
returns-in_err-count-clause-err c =
    let p = err_from_is_err_and c.from_residual-in_err-count.result c.from_residual-in_err-count.ensures.1 in
    rw (p.1, p.2) (λ more. fails-later _ (Number c.args.from.low c.args.from.high ∷ Number c.args.count.low c.args.count.high ∷ more) _ _ _
    c.in_err-count.field-0.0 c.in_ok-role.ensures (fails-later _ (Number c.args.count.low c.args.count.high ∷ more) _ _ _
    c.in_err-count.field-0.0 c.in_ok-from.ensures (fails-here _ more _ _ c.in_err-count.ensures)))
