use Rattle.noise_bound.proofs.Followed.{follows}
use Rattle.noise_bound.proofs.noiseless.decoders_follow_a_line_without_noise.Goals as goal

pub returns : goal.returns
returns c = follows
