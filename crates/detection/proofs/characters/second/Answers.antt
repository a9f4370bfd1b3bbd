use Rattle.detection.proofs.Names.{sym, ap, second}
use Rattle.std.specs.Prelude.{reverse}
use Rattle.detection.proofs.characters.second.Goals as goal

pub returns-in-Odp-clause-bits : goal.returns-in-Odp-clause-bits
returns-in-Odp-clause-bits c = sym (ap (λ seen. reverse (second seen)) c.in-Odp.is)
