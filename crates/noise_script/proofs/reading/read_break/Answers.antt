use Rattle.noise_script.proofs.Names.{[], err_from_is_err_and}
use Rattle.noise_script.proofs.reading.read_break.Goals as goal

pub returns-in_err-role : goal.returns-in_err-role
returns-in_err-role c =
    let p = err_from_is_err_and c.from_residual.result c.from_residual.ensures.1 in
    rw (p.1, p.2) (c.in_err-role.ensures.err [])
