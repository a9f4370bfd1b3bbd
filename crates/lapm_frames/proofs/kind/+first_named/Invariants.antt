use Rattle.lapm_frames.proofs.Names.{length}
use Rattle.lapm_frames.proofs.kind.+first_named.Given as goal

abbrev pub decreases-first_named : goal.decreases-first_named
decreases-first_named l = length l.kinds.now
