use Rattle.run_inputs.proofs.Names.{sym, ap}
use Rattle.run_inputs.specs.Answers.{fault_stop}
use Rattle.run_inputs.proofs.stop.stop_of.Goals as goal

pub returns-in-ReadFault : goal.returns-in-ReadFault
returns-in-ReadFault c = sym (ap fault_stop c.in-ReadFault.is)
