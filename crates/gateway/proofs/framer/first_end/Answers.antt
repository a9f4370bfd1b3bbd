use Rattle.gateway.proofs.Names.{ℕ, suc, ◌+◌, ◌≡◌, ap, sym, subst, ◌∙◌, arith, is_some, DeframerStands, given}
use Rattle.gateway.proofs.FirstEnd.{first-ends, none-ends}
use Rattle.gateway.proofs.framer.first_end.Goals as goal

pub returns-then-is_some-clause-end : goal.returns-then-is_some-clause-end
returns-then-is_some-clause-end c = λ found whole. let place = c.loop-place.place in
    first-ends c.args.bits.now place c.args.count found c.loop-place-test.true c.loop-place.invariant.quiet
    (ap is_some (sym (c.push.ensures.value (given place c.args.bits.now) c.loop-place.invariant.stands)) ∙ sym c.is_some.ensures
    ∙ c.if-is_some.true)
    c.pieces_grow.ensures.more c.pieces_stay.ensures whole

pub loop-place-preserved : goal.loop-place-preserved
loop-place-preserved c = let place = c.loop-place.place in let bits = c.args.bits.now in
    let more : place + 1 ≡ suc place = omega arith in
    record {
      stands = subst (λ (k : ℕ). DeframerStands c.push.new.self (given k bits)) (sym more)
          (c.push.ensures.stands (given place bits) c.loop-place.invariant.stands);
      quiet = none-ends bits place (place + 1) more c.loop-place.invariant.quiet
          (ap is_some (sym (c.push.ensures.value (given place bits) c.loop-place.invariant.stands)) ∙ sym c.is_some.ensures
          ∙ c.if-is_some.false) c.pieces_grow.ensures.more;
    }
