use Rattle.turn_losses.proofs.Names.{arith}
use Rattle.turn_losses.proofs.Sparing.{gives-up-starved}
use Rattle.turn_losses.proofs.laws.ends_give_up_starved.Goals as goal

pub returns : goal.returns
returns c = grind (arith, gives-up-starved)
