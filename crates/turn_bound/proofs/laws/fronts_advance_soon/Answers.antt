use Rattle.turn_bound.proofs.Advancing.{advances-soon-always}
use Rattle.turn_bound.proofs.laws.fronts_advance_soon.Goals as goal

pub returns : goal.returns
returns c = advances-soon-always
