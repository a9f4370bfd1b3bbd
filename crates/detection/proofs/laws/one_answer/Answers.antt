use Rattle.detection.proofs.Answered.{seen-is, seen-once}
use Rattle.detection.proofs.laws.one_answer.Goals as goal

pub returns : goal.returns
returns c = record { exists = seen-is; no_other = seen-once }
