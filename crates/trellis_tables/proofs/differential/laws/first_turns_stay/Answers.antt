use Rattle.trellis_tables.proofs.Turning.Inverses.{turned-take}
use Rattle.trellis_tables.proofs.differential.laws.first_turns_stay.Goals as goal

pub returns : goal.returns
returns c = turned-take
