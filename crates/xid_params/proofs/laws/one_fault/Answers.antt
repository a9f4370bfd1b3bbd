use Rattle.xid_params.proofs.Exact.{one-fault, never-both}
use Rattle.xid_params.proofs.laws.one_fault.Goals as goal

pub returns-clause-one : goal.returns-clause-one
returns-clause-one c = one-fault

pub returns-clause-never_both : goal.returns-clause-never_both
returns-clause-never_both c = never-both
