use Rattle.command_laws.proofs.Names.{refl}
use Rattle.command_laws.proofs.worked.runs.bounds_in_numbers.Goals as goal

pub returns : goal.returns
returns c = record { break = refl; busy = refl; far = refl }
