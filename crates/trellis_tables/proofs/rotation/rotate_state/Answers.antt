use Rattle.trellis_tables.proofs.Names.{refl}
use Rattle.trellis_tables.proofs.rotation.rotate_state.Goals as goal

pub returns-clause-value : goal.returns-clause-value
returns-clause-value c = refl
