use Rattle.detection.proofs.Sent.{found-first}
use Rattle.detection.proofs.laws.patterns_are_found.Goals as goal

pub returns : goal.returns
returns c = found-first
