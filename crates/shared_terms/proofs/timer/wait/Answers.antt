use Rattle.std.proofs.Common.{◌+◌, ◌*◌}
use Rattle.shared_terms.proofs.timer.wait.Goals as goal

pub returns : goal.returns
returns c = λ k. (c.from.ensures k + 1) * c.from-2.ensures k
