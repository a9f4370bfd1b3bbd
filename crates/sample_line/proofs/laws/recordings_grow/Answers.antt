use Rattle.sample_line.proofs.Once.{recorded-once, recordings-grow}
use Rattle.sample_line.proofs.laws.recordings_grow.Goals as goal

pub returns-clause-once : goal.returns-clause-once
returns-clause-once c = recorded-once

pub returns-clause-grow : goal.returns-clause-grow
returns-clause-grow c = recordings-grow
