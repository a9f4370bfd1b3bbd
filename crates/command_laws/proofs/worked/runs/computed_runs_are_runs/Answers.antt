use Rattle.command_laws.proofs.Making.{computed}
use Rattle.command_laws.proofs.worked.runs.computed_runs_are_runs.Goals as goal

pub returns : goal.returns
returns c = computed
