use Rattle.trace_audit.proofs.Worded.{turns-have-lines, chances-have-lines}
use Rattle.trace_audit.proofs.readable.traces_are_read.Goals as goal

pub returns-clause-turns : goal.returns-clause-turns
returns-clause-turns c = turns-have-lines c.lines_are_read.ensures c.written_lines_are_read.ensures.parts c.read_lines_are_whole.ensures

pub returns-clause-chances : goal.returns-clause-chances
returns-clause-chances c = chances-have-lines c.written_lines_are_read.ensures.parts c.read_lines_are_whole.ensures
