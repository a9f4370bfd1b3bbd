use Rattle.noise_script.proofs.Unique.{spelling-once, spelling-fault, fault-once}
use Rattle.noise_script.proofs.Exists.{some-answer}
use Rattle.noise_script.proofs.laws.one_answer.Goals as goal

pub returns-clause-some : goal.returns-clause-some
returns-clause-some c = some-answer

pub returns-clause-scripts : goal.returns-clause-scripts
returns-clause-scripts c = spelling-once

pub returns-clause-faults : goal.returns-clause-faults
returns-clause-faults c text m n a b f g = let same = fault-once text m n a b f g in (same.number_is, same.cause_is)

pub returns-clause-apart : goal.returns-clause-apart
returns-clause-apart c = spelling-fault
