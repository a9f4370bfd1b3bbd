use Rattle.noise_script.proofs.Names.{[], ◌∷◌, err_from_is_err_and, INFO, ARole, Number}
use Rattle.noise_script.proofs.Words.{fails-here, fails-later}
use Rattle.noise_script.proofs.reading.read_length.Goals as goal

pub returns-in_err-octets : goal.returns-in_err-octets
returns-in_err-octets c =
    let p = err_from_is_err_and c.from_residual-in_err-octets.result c.from_residual-in_err-octets.ensures.1 in
    rw (p.1, p.2) (fails-later ARole ((Number 1 INFO) ∷ []) _ _ _ c.in_err-octets.field-0.0 c.in_ok-role.ensures
    (fails-here (Number 1 INFO) [] _ c.in_err-octets.field-0.0 c.in_err-octets.ensures))
