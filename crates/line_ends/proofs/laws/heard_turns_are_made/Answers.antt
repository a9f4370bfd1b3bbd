use Rattle.std.proofs.Common.{arith}
use Rattle.line_ends.proofs.Making.{heard-turns-are-made}
use Rattle.line_ends.proofs.laws.heard_turns_are_made.Goals as goal

pub returns : goal.returns
returns c = grind (arith, heard-turns-are-made)
