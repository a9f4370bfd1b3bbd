use Rattle.exact_decoder.proofs.Names.{take, length-take-le, take_all, lit<, sym, subst, arith, SteppedEach}
use Rattle.std.proofs.lemmas.List.{take_more}
use Rattle.exact_decoder.proofs.Batches.{stepped-none, stepped-more, small-before}
use Rattle.exact_decoder.proofs.kept.Survivors.push_each.Goals as goal

pub loop-sample-init : goal.loop-sample-init
loop-sample-init g c =
    let t = g.C.TrellisCode in
    record {
      stepped = stepped-none t.table t.points g.row.STATES g.row.LABELS t.REACH c.args.self.now;
      covered = λ some. absurd (omega (arith, some));
    }

pub push-requires : goal.push-requires
push-requires g c =
    let s = c.loop-sample.invariant.stepped in
    let low = c.loop-sample-test.true in
    let long = length-take-le c.loop-sample.sample-index c.args.samples.now (omega (arith, low)) in
    let (count, small) = c.requires.small in (
      lit< tt,
      (
        c.requires.depth,
        (
          omega (arith, s.longer, long, low, c.requires.room),
          small-before _ _ _ _ c.loop-sample.self g.met.C.TrellisCode.reach_few (s.small count small),
        ),
      ),
    )

pub loop-sample-preserved : goal.loop-sample-preserved
loop-sample-preserved g c =
    let t = g.C.TrellisCode in
    let met = g.met.C.TrellisCode in
    let at = c.loop-sample.sample-index in
    let samples = c.args.samples.now in
    record {
      stepped = subst (λ l. SteppedEach t.table t.points g.row.STATES t.REACH l c.args.self.now c.push.new.self)
          (sym (take_more samples at _ c.loop-sample-test.true))
          (stepped-more t.table t.points g.row.STATES g.row.LABELS t.REACH (take at samples) _ c.args.self.now c.loop-sample.self
          c.push.new.self met.bounded met.within met.reaches met.enters_once c.loop-sample.invariant.stepped c.push.ensures.stepped);
      covered = λ some. c.push.ensures.covered;
    }

pub returns : goal.returns
returns g c =
    let t = g.C.TrellisCode in
    let i = c.loop-sample.invariant in
    let all = take_all c.loop-sample.sample-index c.args.samples.now (omega (arith, c.loop-sample-test.false)) in
    record {
      stepped = subst (λ l. SteppedEach t.table t.points g.row.STATES t.REACH l c.args.self.now c.loop-sample.self) all i.stepped;
      covered = λ some. i.covered (omega (arith, some, c.loop-sample-test.false));
    }
