use Rattle.noise_bound.proofs.Distances.{cost-is-distance}
use Rattle.noise_bound.proofs.noisy.cost_is_distance.Goals as goal

pub returns : goal.returns
returns c = cost-is-distance
