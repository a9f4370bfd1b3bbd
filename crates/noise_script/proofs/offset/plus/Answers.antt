use Rattle.noise_script.proofs.Names.{arith, ints}
use Rattle.noise_script.proofs.Sums.{same-offset}
use Rattle.noise_script.proofs.offset.plus.Goals as goal

pub returns : goal.returns
returns c = same-offset _ _ (omega (arith, ints)) (omega (arith, ints))
