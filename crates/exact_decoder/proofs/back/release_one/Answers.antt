use Rattle.exact_decoder.proofs.Names.{◌≡◌, ◌-◌, ap, sym, subst, arith, length-append, take, Splits}
use Rattle.exact_decoder.proofs.Walking.{back-one, first-long, first-more}
use Rattle.exact_decoder.proofs.back.release_one.Goals as goal

pub put_behind-requires-clause-room : goal.put_behind-requires-clause-room
put_behind-requires-clause-room g c =
    let i = c.loop-back.invariant in grind (arith, first-long)

pub returns : goal.returns
returns g c =
    let i = c.loop-back.invariant in
    let columns = c.args.ring.now in
    let agreed = c.loop-back.agreed in
    let first = take agreed c.loop-back.labels in
    let (left, back) = i.back in
    let all : c.loop-back.back ≡ c.args.unreleased = omega (arith, c.requires.from, c.loop-back.auto, c.loop-back-test.false) in
    let left_is : left ≡ c.args.from - c.args.agreed = grind (arith, first-long) in
    subst (λ l. Splits g.row.STATES columns c.args.unreleased (c.args.from - c.args.agreed) l) (sym c.shorten.ensures)
    (subst (λ n. Splits g.row.STATES columns n (c.args.from - c.args.agreed) first) all
    (subst (λ m. Splits g.row.STATES columns c.loop-back.back m first) left_is back.splits))

pub loop-back-preserved : goal.loop-back-preserved
loop-back-preserved g c =
    let i = c.loop-back.invariant in
    let here = c.choice-choice.result in
    let first = take c.loop-back.agreed c.loop-back.labels in
    record {
      state = grind (arith);
      agreed = grind (arith, first-long, length-append);
      moved = omega (arith, i.moved);
      back = (
        i.back.0,
        back-one _ _ _ _ _ _ _ _ _ _ c.column.ensures.next (ap (λ c. c.before) c.choice-choice.ensures)
            (ap (λ c. c.label) c.choice-choice.ensures) (first-more _ _ _ _ i.agreed c.put_behind.ensures) i.back.1,
      );
    }
