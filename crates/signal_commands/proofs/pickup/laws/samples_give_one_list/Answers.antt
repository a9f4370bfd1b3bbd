use Rattle.signal_commands.proofs.PickingUp.Given.{some-pieces-are-given, pieces-are-given-once}
use Rattle.signal_commands.proofs.pickup.laws.samples_give_one_list.Goals as goal

pub returns-clause-some : goal.returns-clause-some
returns-clause-some c = some-pieces-are-given

pub returns-clause-once : goal.returns-clause-once
returns-clause-once c = pieces-are-given-once
