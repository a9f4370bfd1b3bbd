use Rattle.turn_bound.proofs.Bounding.{spends-always}
use Rattle.turn_bound.proofs.laws.tries_are_spent_on_time.Goals as goal

pub returns : goal.returns
returns c = spends-always
