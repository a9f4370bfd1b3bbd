use Rattle.frame_check.proofs.Names.{refl}
use Rattle.frame_check.proofs.laws.sizes.Goals as goal

pub returns-clause-slot : goal.returns-clause-slot
returns-clause-slot c = refl
