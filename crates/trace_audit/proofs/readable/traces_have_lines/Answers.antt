use Rattle.trace_audit.proofs.TraceLines.{texts-have-lines}
use Rattle.trace_audit.proofs.readable.traces_have_lines.Goals as goal

pub returns : goal.returns
returns c = texts-have-lines
