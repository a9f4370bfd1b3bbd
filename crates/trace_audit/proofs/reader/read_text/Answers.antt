use Rattle.trace_audit.proofs.Cited.{sym, ◌∙◌}
use Rattle.trace_audit.proofs.LineParts.{line-is, unread}
use Rattle.trace_audit.proofs.reader.read_text.Goals as goal

pub returns-in-Some-clause-ok : goal.returns-in-Some-clause-ok
returns-in-Some-clause-ok c = line-is c.args.line.now c.in-Some.text c.if-line-gt-LINE.false (sym c.line_in.ensures ∙ c.in-Some.is)

pub returns-in-None-clause-err : goal.returns-in-None-clause-err
returns-in-None-clause-err c = λ e text h. unread c.args.line.now text (sym c.line_in.ensures ∙ c.in-None.is) h
