use Rattle.noise_bound.proofs.Near.{releases-near_of_any}
use Rattle.noise_bound.proofs.noisy.released_labels_were_sent_from_any_start.Goals as goal

pub returns : goal.returns
returns c = releases-near_of_any
