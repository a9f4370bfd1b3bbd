use Rattle.noise_script.proofs.Names.{[], ◌∷◌, err_from_is_err_and, Number}
use Rattle.noise_script.proofs.Words.{fails-here, fails-later}
use Rattle.noise_script.proofs.reading.read_delays.Goals as goal

pub returns-in_err-answ : goal.returns-in_err-answ
returns-in_err-answ c =
    let p = err_from_is_err_and c.from_residual-in_err-answ.result c.from_residual-in_err-answ.ensures.1 in
    rw (p.1, p.2) (fails-later (Number 1 60) ((Number 1 60) ∷ []) _ _ _ c.in_err-answ.field-0.0 c.in_ok-orig.ensures
    (fails-here (Number 1 60) [] _ c.in_err-answ.field-0.0 c.in_err-answ.ensures))
