use Rattle.trellis_tables.proofs.Turning.Inverses.{unturned-turned}
use Rattle.trellis_tables.proofs.differential.laws.turns_come_back.Goals as goal

pub returns : goal.returns
returns c = unturned-turned
