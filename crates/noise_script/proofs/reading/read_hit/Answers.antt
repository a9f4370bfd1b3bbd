use Rattle.noise_script.proofs.Names.{◌≡◌, [], ◌∷◌, length, refl, arith, ints, err_from_is_err_and, w16, cast_signed}
use Rattle.noise_script.proofs.Names.{cast_unsigned, words_of}
use Rattle.noise_script.specs.Forms.{count, symbol, coordinate}
use Rattle.noise_script.proofs.Words.{fails-here, fails-later, fails-behind, spells-here, spells-behind, spells-none, one-less, three-less}
use Rattle.noise_script.proofs.reading.read_hit.Goals as goal

pub returns-in_err-role : goal.returns-in_err-role
returns-in_err-role c =
    let p = err_from_is_err_and c.from_residual.result c.from_residual.ensures.1 in
    rw (p.1, p.2) (c.in_err-role.ensures.err (coordinate ∷ coordinate ∷ []))

pub returns-in_err-re : goal.returns-in_err-re
returns-in_err-re c =
    let p = err_from_is_err_and c.from_residual-in_err-re.result c.from_residual-in_err-re.ensures.1 in
    rw (p.1, p.2) (fails-behind symbol count (coordinate ∷ coordinate ∷ []) _ _ _ _ _ c.in_err-re.field-0.0 c.in_ok-role.ensures.ok
    (fails-here coordinate (coordinate ∷ []) _ c.in_err-re.field-0.0 c.in_err-re.ensures))

pub returns-in_err-im : goal.returns-in_err-im
returns-in_err-im c =
    let p = err_from_is_err_and c.from_residual-in_err-im.result c.from_residual-in_err-im.ensures.1 in
    rw (p.1, p.2) (fails-behind symbol count (coordinate ∷ coordinate ∷ []) _ _ _ _ _ c.in_err-im.field-0.0 c.in_ok-role.ensures.ok
    (fails-later coordinate (coordinate ∷ []) _ _ _ c.in_err-im.field-0.0 c.in_ok-re.ensures
    (fails-here coordinate [] _ c.in_err-im.field-0.0 c.in_err-im.ensures)))

pub returns : goal.returns
returns c =
    let re = c.in_ok-re.ensures in
    let im = c.in_ok-im.ensures in
    let re_is : cast_signed w16 (cast_unsigned w16 c.in_ok-re.re) ≡ c.in_ok-re.re =
    omega (arith, ints, re.spells.not_below, re.spells.not_above) in
    let im_is : cast_signed w16 (cast_unsigned w16 c.in_ok-im.im) ≡ c.in_ok-im.im =
    omega (arith, ints, im.spells.not_below, im.spells.not_above) in
    let none : length (words_of c.in_ok-im.field-0-1.now) ≡ 0 = grind (arith, three-less, symbol, count, one-less, coordinate) in
    record {
      form_is = refl;
      each = grind (arith, spells-behind, symbol, count, coordinate, spells-here, spells-none);
    }
