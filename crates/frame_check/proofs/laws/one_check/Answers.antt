use Rattle.frame_check.proofs.Checks.{check_of-is, check_of-one, length-check_of}
use Rattle.frame_check.proofs.laws.one_check.Goals as goal

pub returns-clause-exists : goal.returns-clause-exists
returns-clause-exists c = check_of-is

pub returns-clause-no_other : goal.returns-clause-no_other
returns-clause-no_other c = check_of-one

pub returns-clause-count : goal.returns-clause-count
returns-clause-count c = length-check_of
