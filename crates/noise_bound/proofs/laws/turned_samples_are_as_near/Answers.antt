use Rattle.noise_bound.proofs.Turned.{near-turns}
use Rattle.noise_bound.proofs.laws.turned_samples_are_as_near.Goals as goal

pub returns : goal.returns
returns c = near-turns
