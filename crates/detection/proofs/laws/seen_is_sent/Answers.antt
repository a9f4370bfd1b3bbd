use Rattle.detection.proofs.Sent.{seen-sent}
use Rattle.detection.proofs.laws.seen_is_sent.Goals as goal

pub returns : goal.returns
returns c = seen-sent
