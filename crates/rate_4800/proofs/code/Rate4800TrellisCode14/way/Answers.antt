use Rattle.std.proofs.Common.{refl}
use Rattle.rate_4800.proofs.code.Rate4800TrellisCode14.way.Goals as goal

pub returns-clause-subset : goal.returns-clause-subset
returns-clause-subset c = refl
