use Rattle.turn_losses.proofs.Fewness.{starved-loses-many, lossless-is-fed}
use Rattle.turn_losses.proofs.laws.few_losses_starve_no_run.Goals as goal

pub returns : goal.returns
returns c = record { many = starved-loses-many; none = lossless-is-fed }
