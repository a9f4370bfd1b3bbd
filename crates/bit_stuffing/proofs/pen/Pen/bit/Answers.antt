use Rattle.std.proofs.Common.{arith}
use Rattle.bit_stuffing.proofs.Written.{length-written}
use Rattle.bit_stuffing.proofs.pen.Pen.bit.Goals as goal

pub push-requires-clause-room : goal.push-requires-clause-room
push-requires-clause-room c = omega (arith, c.requires, length-written c.args.self.now c.args.out.now)
