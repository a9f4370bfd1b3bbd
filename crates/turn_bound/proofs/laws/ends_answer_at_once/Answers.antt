use Rattle.turn_bound.proofs.Bounding.{at-once-always}
use Rattle.turn_bound.proofs.laws.ends_answer_at_once.Goals as goal

pub returns : goal.returns
returns c = at-once-always
