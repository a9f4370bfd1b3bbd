use Rattle.trace_audit.proofs.Cited.{ap, sym, found_end}
use Rattle.trace_audit.proofs.turns.found_end.Goals as goal

pub returns-in-Err : goal.returns-in-Err
returns-in-Err c = ap found_end (sym c.in-Err.is)
