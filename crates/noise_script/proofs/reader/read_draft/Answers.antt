use Rattle.noise_script.proofs.Names.{◌≡◌, length, refl, subst, arith, nat_tests, nil_from_length, err_from_is_err_and, HoldsUpTo}
use Rattle.noise_script.proofs.Progress.{holds-none, holds-more, fault-of}
use Rattle.noise_script.proofs.reader.read_draft.Goals as goal

pub loop-rest-init : goal.loop-rest-init
loop-rest-init c = record { holds = holds-none c.args.text.now c.new-draft.result c.new-draft.ensures; room = omega arith }

pub loop-rest-preserved : goal.loop-rest-preserved
loop-rest-preserved c =
    let h = c.loop-rest.invariant.holds in
    let text = c.args.text.now in
    record {
      holds = holds-more _ _ _ _ _ _ _ _ h c.next_line.ensures.lines refl (c.in_ok-add_line.ensures.ok h.said h.holds h.allowed);
      room = omega (arith, c.loop-rest.invariant.room, c.next_line.ensures.shorter);
    }

pub loop-rest-smaller : goal.loop-rest-smaller
loop-rest-smaller c = c.next_line.ensures.shorter

pub returns-in_err-add_line-clause-fault : goal.returns-in_err-add_line-clause-fault
returns-in_err-add_line-clause-fault c =
    let h = c.loop-rest.invariant.holds in
    let q = err_from_is_err_and c.from_residual.result c.from_residual.ensures.1 in grind (arith, fault-of)

pub returns-clause-ok : goal.returns-clause-ok
returns-clause-ok c =
    let none : length c.loop-rest.rest.now ≡ 0 = let h = c.loop-rest-test.ensures in grind (arith, nat_tests) in (
      c.loop-rest.number,
      subst (λ rest. HoldsUpTo c.args.text.now rest c.loop-rest.number c.loop-rest.draft) (nil_from_length c.loop-rest.rest.now none)
          c.loop-rest.invariant.holds,
    )
