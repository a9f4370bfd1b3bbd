use Rattle.std.proofs.Common.{arith}
use Rattle.exact_decoder.proofs.tail.Tail.of.Goals as goal

pub returns : goal.returns
returns c = grind arith
