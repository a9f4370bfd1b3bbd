use Rattle.std.proofs.Common.{arith}
use Rattle.line_ends.proofs.EachEnds.{each-run-ends}
use Rattle.line_ends.proofs.laws.runs_end.Goals as goal

pub returns : goal.returns
returns c = grind (arith, each-run-ends)
