use Rattle.noise_bound.proofs.Followed.{released-sent_at}
use Rattle.noise_bound.proofs.noiseless.released_labels_were_sent.Goals as goal

pub returns : goal.returns
returns c = released-sent_at
