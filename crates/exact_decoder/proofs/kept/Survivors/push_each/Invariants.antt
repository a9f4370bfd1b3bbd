use Rattle.exact_decoder.proofs.Names.{◌≤◌, take, SteppedEach, Covered}
use Rattle.exact_decoder.proofs.kept.Survivors.push_each.Given as goal

abbrev pub invariant-loop-sample : goal.invariant-loop-sample
invariant-loop-sample g l = record {
  stepped : SteppedEach g.C.TrellisCode.table g.C.TrellisCode.points g.row.STATES g.C.TrellisCode.REACH (take l.sample-index l.samples)
      l.fn.self l.self;
  covered : 1 ≤ l.sample-index → Covered g.row.STATES l.self;
}
