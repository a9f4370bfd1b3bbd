use Rattle.noise_script.proofs.Names.{[], ◌∷◌, err_from_is_err_and, ARole, Number}
use Rattle.noise_script.proofs.Words.{fails-here, fails-later}
use Rattle.noise_script.proofs.reading.read_window.Goals as goal

pub returns-in_err-segments : goal.returns-in_err-segments
returns-in_err-segments c =
    let p = err_from_is_err_and c.from_residual-in_err-segments.result c.from_residual-in_err-segments.ensures.1 in
    rw (p.1, p.2) (fails-later ARole ((Number 1 127) ∷ []) _ _ _ c.in_err-segments.field-0.0 c.in_ok-role.ensures
    (fails-here (Number 1 127) [] _ c.in_err-segments.field-0.0 c.in_err-segments.ensures))
