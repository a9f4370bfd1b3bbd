use Rattle.noise_bound.proofs.Near.{decodes-near_any}
use Rattle.noise_bound.proofs.noisy.decoders_follow_a_line_from_any_start.Goals as goal

pub returns : goal.returns
returns c = decodes-near_any
