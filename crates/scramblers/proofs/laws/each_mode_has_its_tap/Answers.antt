use Rattle.scramblers.proofs.Names.{refl}
use Rattle.scramblers.proofs.laws.each_mode_has_its_tap.Goals as goal

pub returns-clause-call : goal.returns-clause-call
returns-clause-call c = refl
