use Rattle.noise_script.proofs.Names.{◌≡◌, true, false, arith, rules, Offset, same_role}
use Rattle.noise_script.proofs.Sums.{same-offset}
use Rattle.noise_script.proofs.Batched.{apart, begins, goes-on, ends, within-at, hit-small}
use Rattle.noise_script.proofs.batch.add_hit.Goals as goal

pub returns-then-ne-clause-grow : goal.returns-then-ne-clause-grow
returns-then-ne-clause-grow c =
    let hit = c.args.hit.now in
    let own : same_role hit.role c.args.sender ≡ false = search rules in grind (arith, apart)

pub loop-place-init : goal.loop-place-init
loop-place-init c =
    let hit = c.args.hit.now in
    begins (same_role hit.role c.args.sender) hit.from hit.count c.args.start (λ place. record { re = hit.re; im = hit.im }) c.args.sums.now
    c.begin_of-begin.result c.begin_of-begin.ensures

pub loop-place-preserved : goal.loop-place-preserved
loop-place-preserved c =
    let hit = c.args.hit.now in
    let own : same_role hit.role c.args.sender ≡ true = search rules in
    let offset : Offset = record { re = hit.re; im = hit.im } in
    goes-on (same_role hit.role c.args.sender) hit.from hit.count c.args.start (λ place. offset) c.args.sums.now
    c.begin_of-begin.result c.end_of-end.result c.loop-place.place c.loop-place.sums c.plus.result c.offset_of_hit-offset.result
    c.begin_of-begin.ensures c.end_of-end.ensures own c.loop-place.auto.place c.loop-place-test.true c.loop-place.invariant
    (same-offset c.offset_of_hit-offset.result offset c.offset_of_hit-offset.ensures.re c.offset_of_hit-offset.ensures.im) c.plus.ensures

pub plus-requires-clause-a : goal.plus-requires-clause-a
plus-requires-clause-a c =
    within-at 1073741823 _ _ _ _ c.requires c.loop-place.invariant (omega (arith, c.loop-place-test.true, c.end_of-end.ensures))

pub returns-clause-grow : goal.returns-clause-grow
returns-clause-grow c =
    let hit = c.args.hit.now in
    ends (same_role hit.role c.args.sender) hit.from hit.count c.args.start (λ place. record { re = hit.re; im = hit.im }) c.args.sums.now
    c.end_of-end.result c.loop-place.place c.loop-place.sums c.end_of-end.ensures c.loop-place-test.false c.loop-place.invariant

pub returns-clause-small : goal.returns-clause-small
returns-clause-small c =
    hit-small _ _ _ c.offset_of_hit-offset.ensures.small c.offset_of_hit-offset.ensures.re c.offset_of_hit-offset.ensures.im
