use Rattle.lapm_frames.proofs.Exact.{faults-one, never-both}
use Rattle.lapm_frames.proofs.laws.one_fault.Goals as goal

pub returns-clause-one : goal.returns-clause-one
returns-clause-one c = faults-one

pub returns-clause-never_both : goal.returns-clause-never_both
returns-clause-never_both c = never-both
