use Rattle.noise_bound.proofs.NoisyCosts.{cost-over_others, distance-over_samples}
use Rattle.noise_bound.proofs.noisy.near_the_same_is_near.Goals as goal

pub returns : goal.returns
returns c = record { cost = cost-over_others; distance = distance-over_samples }
