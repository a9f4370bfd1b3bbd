use Rattle.trellis_tables.proofs.Turning.Inverses.{goes_on}
use Rattle.trellis_tables.proofs.differential.laws.each_turn_goes_on.Goals as goal

pub returns : goal.returns
returns c = goes_on
