use Rattle.std.proofs.Common.{arith}
use Rattle.line_ends.proofs.Undisturbed.{quiet-deliver}
use Rattle.line_ends.proofs.laws.undisturbed_runs_deliver.Goals as goal

pub returns : goal.returns
returns c = grind (arith, quiet-deliver)
