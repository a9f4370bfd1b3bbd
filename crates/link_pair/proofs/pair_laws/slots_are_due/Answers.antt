use Rattle.link_pair.proofs.Pairs.Placing.{first-slots-are-due, second-slots-are-due}
use Rattle.link_pair.proofs.pair_laws.slots_are_due.Goals as goal

pub returns : goal.returns
returns c = record { first = first-slots-are-due; second = second-slots-are-due }
