use Rattle.std.proofs.Common.{arith}
use Rattle.bit_stuffing.proofs.Names.{append_assoc, written}
use Rattle.bit_stuffing.proofs.pen.Pen.content_bit.Goals as goal

pub returns-then-room-eq1-clause-written : goal.returns-then-room-eq1-clause-written
returns-then-room-eq1-clause-written c =
    let start = written c.args.self.now c.args.out.now in grind (arith, append_assoc)
