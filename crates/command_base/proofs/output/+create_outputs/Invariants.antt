use Rattle.command_base.proofs.Names.{length}
use Rattle.command_base.proofs.output.+create_outputs.Given as goal

abbrev pub decreases-create_outputs : goal.decreases-create_outputs
decreases-create_outputs g l = length l.names.now
