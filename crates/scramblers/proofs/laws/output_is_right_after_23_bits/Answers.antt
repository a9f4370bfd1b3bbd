use Rattle.scramblers.proofs.Readings.{right_after_23}
use Rattle.scramblers.proofs.laws.output_is_right_after_23_bits.Goals as goal

pub returns : goal.returns
returns c = right_after_23
