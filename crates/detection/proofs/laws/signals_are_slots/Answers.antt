use Rattle.std.proofs.Common.{lit<}
use Rattle.detection.proofs.Sent.{can-follow}
use Rattle.detection.proofs.laws.signals_are_slots.Goals as goal

pub returns : goal.returns
returns c = λ size signals long all. can-follow size 0 signals long (lit< tt) all
