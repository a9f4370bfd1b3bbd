use Rattle.scramblers.proofs.Readings.{depends_on_three}
use Rattle.scramblers.proofs.laws.output_depends_on_three_bits.Goals as goal

pub returns : goal.returns
returns c = depends_on_three
