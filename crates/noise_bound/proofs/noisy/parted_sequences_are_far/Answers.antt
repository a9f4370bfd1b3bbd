use Rattle.noise_bound.proofs.Distances.{apart-is-far, parting-is-far}
use Rattle.noise_bound.proofs.noisy.parted_sequences_are_far.Goals as goal

pub returns : goal.returns
returns c = record { apart = apart-is-far; parting = parting-is-far }
