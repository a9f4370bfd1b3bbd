use Rattle.noise_bound.proofs.Near.{decodes-near}
use Rattle.noise_bound.proofs.noisy.decoders_follow_a_line.Goals as goal

pub returns : goal.returns
returns c = decodes-near
