use Rattle.trellis_tables.proofs.Names.{refl}
use Rattle.trellis_tables.proofs.table.way_into.Goals as goal

pub returns-clause-before : goal.returns-clause-before
returns-clause-before c = refl
