use Rattle.std.proofs.Common.{arith}
use Rattle.line_ends.proofs.Starving.{few-losses-keep-links}
use Rattle.line_ends.proofs.laws.few_losses_keep_links.Goals as goal

pub returns : goal.returns
returns c = grind (arith, few-losses-keep-links)
