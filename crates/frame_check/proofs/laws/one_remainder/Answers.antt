use Rattle.frame_check.proofs.Checks.{one_remainder_of}
use Rattle.frame_check.proofs.laws.one_remainder.Goals as goal

pub returns : goal.returns
returns c = one_remainder_of
