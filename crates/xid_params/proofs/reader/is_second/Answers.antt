use Rattle.std.proofs.lemmas.Bool.{eqb-true}
use Rattle.xid_params.proofs.reader.is_second.Goals as goal

pub returns-else-identifier-eq-PARAMETERS-clause-second : goal.returns-else-identifier-eq-PARAMETERS-clause-second
returns-else-identifier-eq-PARAMETERS-clause-second c =
    λ is. absurd (c.if-identifier-eq-PARAMETERS.false (eqb-true c.args.identifier 128 is))
