use Rattle.noise_bound.proofs.Near.{few-unreleased, never-lost}
use Rattle.noise_bound.proofs.noisy.few_labels_are_unreleased.Goals as goal

pub returns : goal.returns
returns c = record { few = few-unreleased; never_lost = never-lost }
