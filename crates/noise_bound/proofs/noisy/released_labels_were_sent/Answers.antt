use Rattle.noise_bound.proofs.Near.{releases-near}
use Rattle.noise_bound.proofs.noisy.released_labels_were_sent.Goals as goal

pub returns : goal.returns
returns c = releases-near
