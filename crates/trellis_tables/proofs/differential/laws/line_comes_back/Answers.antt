use Rattle.trellis_tables.proofs.Turning.Inverses.{turned-unturned}
use Rattle.trellis_tables.proofs.differential.laws.line_comes_back.Goals as goal

pub returns : goal.returns
returns c = turned-unturned
