use Rattle.trace_audit.proofs.Judging.{yes-is-the-trace}
use Rattle.trace_audit.proofs.promises.a_yes_is_the_trace.Goals as goal

pub returns : goal.returns
returns c = yes-is-the-trace
