use Rattle.turn_bound.proofs.Bounding.{stand-together-always}
use Rattle.turn_bound.proofs.laws.ends_stand_together.Goals as goal

pub returns : goal.returns
returns c = stand-together-always
