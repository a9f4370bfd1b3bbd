use Rattle.detection.proofs.Names.{sym, ap, pattern}
use Rattle.detection.proofs.slots.quads.Goals as goal

pub returns-in-Odp-clause-bits : goal.returns-in-Odp-clause-bits
returns-in-Odp-clause-bits c = sym (ap pattern c.in-Odp.is)
