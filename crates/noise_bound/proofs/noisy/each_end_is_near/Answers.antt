use Rattle.noise_bound.proofs.Distances.{ends-are-near}
use Rattle.noise_bound.proofs.noisy.each_end_is_near.Goals as goal

pub returns : goal.returns
returns c = ends-are-near
