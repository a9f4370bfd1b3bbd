use Rattle.std.proofs.Common.{arith}
use Rattle.bit_stuffing.proofs.Octets.{pushed-more}
use Rattle.bit_stuffing.proofs.unstuffer.Unstuffer.push_each.Goals as goal

pub loop-place-preserved : goal.loop-place-preserved
loop-place-preserved c = λ line h.
    pushed-more c.loop-place.self c.push.new.self line c.loop-place._place c.loop-place.rest c.args.count c.args.bits
    (omega (arith, c.loop-place-test.true)) c.push.ensures (c.loop-place.invariant line h)
