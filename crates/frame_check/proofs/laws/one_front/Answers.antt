use Rattle.frame_check.proofs.Checks.{fronts-one, length-checked, front-checked}
use Rattle.frame_check.proofs.laws.one_front.Goals as goal

pub returns-clause-one : goal.returns-clause-one
returns-clause-one c = fronts-one

pub returns-clause-count : goal.returns-clause-count
returns-clause-count c = length-checked

pub returns-clause-front : goal.returns-clause-front
returns-clause-front c = front-checked
