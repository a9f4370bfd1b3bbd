use Rattle.trace_audit.proofs.Whole.{parts-whole}
use Rattle.trace_audit.proofs.laws.read_lines_are_whole.Goals as goal

pub returns : goal.returns
returns c = parts-whole
