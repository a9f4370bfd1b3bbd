use Rattle.line_world.proofs.Cited.{arith}
use Rattle.line_world.proofs.Lending.{few-turns}
use Rattle.line_world.proofs.laws.turns_are_few.Goals as goal

pub returns : goal.returns
returns c = λ w ready. let few = few-turns c.line_runs_end_soon.ensures.within_limits w ready in omega (arith, few)
