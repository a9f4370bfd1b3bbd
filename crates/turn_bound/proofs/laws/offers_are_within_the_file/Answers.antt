use Rattle.turn_bound.proofs.Bounding.{within-always}
use Rattle.turn_bound.proofs.laws.offers_are_within_the_file.Goals as goal

pub returns : goal.returns
returns c = within-always
