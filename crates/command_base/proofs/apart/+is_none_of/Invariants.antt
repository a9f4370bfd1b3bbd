use Rattle.command_base.proofs.Names.{length}
use Rattle.command_base.proofs.apart.+is_none_of.Given as goal

abbrev pub decreases-is_none_of : goal.decreases-is_none_of
decreases-is_none_of l = length l.names.now
