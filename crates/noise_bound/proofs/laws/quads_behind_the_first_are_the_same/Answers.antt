use Rattle.noise_bound.proofs.Bits.{quads-are-alike, quads-are-alike_of_any}
use Rattle.noise_bound.proofs.laws.quads_behind_the_first_are_the_same.Goals as goal

pub returns : goal.returns
returns c = record { one_start = quads-are-alike; any_start = quads-are-alike_of_any }
