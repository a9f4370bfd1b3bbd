use Rattle.trellis_tables.proofs.Names.{refl}
use Rattle.trellis_tables.proofs.differential.turner.Turner.new.Goals as goal

pub returns : goal.returns
returns c = record { turned_is = refl; latest_is = refl }
