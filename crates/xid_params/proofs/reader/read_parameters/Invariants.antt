use Rattle.std.proofs.Common.{length}
use Rattle.xid_params.proofs.Parameters.{ParametersPassed}
use Rattle.xid_params.proofs.reader.read_parameters.Given as goal

abbrev pub invariant-loop-identifier : goal.invariant-loop-identifier
invariant-loop-identifier l = ParametersPassed l.content l.rest l.given

abbrev pub decreases-loop-identifier : goal.decreases-loop-identifier
decreases-loop-identifier l = length l.rest
