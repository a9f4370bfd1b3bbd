use Rattle.command_laws.proofs.Tracing.{traces-of-runs-are-true}
use Rattle.command_laws.proofs.laws.traces_of_runs_are_true.Goals as goal

pub returns : goal.returns
returns c = traces-of-runs-are-true c.one_answer.ensures.scripts c.apart_names_differ.ensures.inputs
