use Rattle.run_inputs.proofs.Names.{length}
use Rattle.run_inputs.proofs.lengths.+check_lengths.Given as goal

abbrev pub decreases-check_lengths : goal.decreases-check_lengths
decreases-check_lengths g l = length l.names.now
