use Rattle.noise_bound.proofs.Near.{few-unreleased_any, never-lost_any, few-without_noise}
use Rattle.noise_bound.proofs.noisy.few_labels_are_unreleased_from_any_start.Goals as goal

pub returns : goal.returns
returns c = record { few = few-unreleased_any; never_lost = never-lost_any; without_noise = few-without_noise }
