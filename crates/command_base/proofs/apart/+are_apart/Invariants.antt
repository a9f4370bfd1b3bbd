use Rattle.command_base.proofs.Names.{length}
use Rattle.command_base.proofs.apart.+are_apart.Given as goal

abbrev pub decreases-are_apart : goal.decreases-are_apart
decreases-are_apart l = length l.outputs.now
