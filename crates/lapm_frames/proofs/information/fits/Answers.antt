use Rattle.lapm_frames.proofs.Names.{arith}
use Rattle.lapm_frames.proofs.information.fits.Goals as goal

pub returns-clause-ok : goal.returns-clause-ok
returns-clause-ok c = omega arith
