use Rattle.run_inputs.proofs.Names.{refl}
use Rattle.run_inputs.proofs.laws.limits_of_inputs.Goals as goal

pub returns-clause-file : goal.returns-clause-file
returns-clause-file c = refl
