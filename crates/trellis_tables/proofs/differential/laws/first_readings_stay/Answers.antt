use Rattle.trellis_tables.proofs.Turning.Inverses.{unturned-take}
use Rattle.trellis_tables.proofs.differential.laws.first_readings_stay.Goals as goal

pub returns : goal.returns
returns c = unturned-take
