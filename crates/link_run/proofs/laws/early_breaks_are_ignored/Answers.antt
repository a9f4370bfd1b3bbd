use Rattle.link_run.proofs.Names.{arith}
use Rattle.link_run.proofs.Overhearing.{early_breaks_are_ignored}
use Rattle.link_run.proofs.laws.early_breaks_are_ignored.Goals as goal

pub returns : goal.returns
returns c = grind (arith, early_breaks_are_ignored)
