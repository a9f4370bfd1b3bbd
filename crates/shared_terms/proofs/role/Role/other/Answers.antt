use Rattle.std.proofs.Common.{sym, ap}
use Rattle.shared_terms.specs.Role.{other}
use Rattle.shared_terms.proofs.role.Role.other.Goals as goal

pub returns-in-Answerer : goal.returns-in-Answerer
returns-in-Answerer c = sym (ap other c.in-Answerer.is)
