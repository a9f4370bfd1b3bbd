use Rattle.trace_audit.proofs.LineParts.{one-reading, one-line}
use Rattle.trace_audit.proofs.laws.readings_are_one.Goals as goal

pub returns-clause-parts : goal.returns-clause-parts
returns-clause-parts c = one-reading

pub returns-clause-line : goal.returns-clause-line
returns-clause-line c = one-line
