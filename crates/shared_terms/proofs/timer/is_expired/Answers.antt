use Rattle.std.proofs.Common.{arith}
use Rattle.std.proofs.lemmas.Bool.Decides.{nat_tests}
use Rattle.shared_terms.proofs.timer.is_expired.Goals as goal

pub returns-then-turn-set : goal.returns-then-turn-set
returns-then-turn-set c = grind (arith, nat_tests)
