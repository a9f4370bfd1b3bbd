use Rattle.detection.proofs.Sent.{sent-only}
use Rattle.detection.proofs.laws.patterns_are_sent.Goals as goal

pub returns : goal.returns
returns c = sent-only
