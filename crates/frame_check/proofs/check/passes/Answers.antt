use Rattle.frame_check.proofs.Names.{◌≡◌, ◌≤◌, length, arith, ◌∙◌, subst, count_of}
use Rattle.frame_check.specs.Division.{check_of}
use Rattle.frame_check.proofs.Checks.{too_short, decides}
use Rattle.frame_check.proofs.check.passes.Goals as goal

pub returns-in_default : goal.returns-in_default
returns-in_default c =
    too_short c.args.check c.args.octets.now (subst (λ n. n ≤ length c.args.octets.now → ⊥) c.len.ensures c.in_default.ensures)

pub returns : goal.returns
returns c =
    let count : length c.split_at.result.1.now ≡ count_of c.args.check =
    omega (arith, c.len.ensures, c.in-Some.ensures.0, c.in-Some.ensures.1, c.split_at.ensures.back_len) in
    let found : c.as_slice.result.now ≡ check_of c.args.check c.split_at.result.0.now =
    c.as_slice.ensures.items ∙ c.check_octets.ensures.value in
    decides c.args.check c.args.octets.now c.split_at.result.0.now c.split_at.result.1.now c.as_slice.result.now c.eq.result
    c.split_at.ensures.by_index.0 count found c.eq.ensures
