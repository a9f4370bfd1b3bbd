use Rattle.line_run.proofs.Cited.{arith}
use Rattle.line_run.proofs.Resulting.{ResultLaws, one_result}
use Rattle.line_run.proofs.laws.one_result.Goals as goal

pub returns : goal.returns
returns c =
    let laws : ResultLaws = grind (arith) in
    one_result laws
