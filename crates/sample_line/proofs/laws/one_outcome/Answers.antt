use Rattle.sample_line.proofs.Once.{received-once, outcome-once}
use Rattle.sample_line.proofs.laws.one_outcome.Goals as goal

pub returns-clause-received : goal.returns-clause-received
returns-clause-received c = received-once

pub returns-clause-outcome : goal.returns-clause-outcome
returns-clause-outcome c = outcome-once
