use Rattle.noise_bound.proofs.Bits.{few-bits-differ, few-bits-differ_of_any}
use Rattle.noise_bound.proofs.laws.at_most_six_bits_differ.Goals as goal

pub returns : goal.returns
returns c = record { one_start = few-bits-differ; any_start = few-bits-differ_of_any }
