use Rattle.noise_script.proofs.Names.{[], ◌∷◌, err_from_is_err_and, Number}
use Rattle.noise_script.proofs.Words.{fails-here, fails-later, fails-behind}
use Rattle.noise_script.proofs.reading.read_noise.Goals as goal

pub returns-in_err-role : goal.returns-in_err-role
returns-in_err-role c =
    let p = err_from_is_err_and c.from_residual.result c.from_residual.ensures.1 in
    rw (p.1, p.2) (c.in_err-role.ensures.err (Number 0 32767 ∷ Number 0 18446744073709551615 ∷ []))

pub returns-in_err-amplitude : goal.returns-in_err-amplitude
returns-in_err-amplitude c =
    let p = err_from_is_err_and c.from_residual-in_err-amplitude.result c.from_residual-in_err-amplitude.ensures.1 in
    rw (p.1, p.2) (fails-behind _ _ (Number 0 32767 ∷ Number 0 18446744073709551615 ∷ []) _ _ _ _ _ c.in_err-amplitude.field-0.0
    c.in_ok-role.ensures.ok (fails-here _ (Number 0 18446744073709551615 ∷ []) _ _ c.in_err-amplitude.ensures))

pub returns-in_err-seed : goal.returns-in_err-seed
returns-in_err-seed c =
    let p = err_from_is_err_and c.from_residual-in_err-seed.result c.from_residual-in_err-seed.ensures.1 in
    rw (p.1, p.2) (fails-behind _ _ (Number 0 32767 ∷ Number 0 18446744073709551615 ∷ []) _ _ _ _ _ c.in_err-seed.field-0.0
    c.in_ok-role.ensures.ok (fails-later _ (Number 0 18446744073709551615 ∷ []) _ _ _ c.in_err-seed.field-0.0 c.in_ok-amplitude.ensures
    (fails-here _ [] _ c.in_err-seed.field-0.0 c.in_err-seed.ensures)))
