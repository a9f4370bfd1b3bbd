use Rattle.noise_bound.proofs.Followed.{few-unreleased_at, never-lost}
use Rattle.noise_bound.proofs.noiseless.few_labels_are_unreleased.Goals as goal

pub returns : goal.returns
returns c = record { few = few-unreleased_at; never_lost = never-lost }
