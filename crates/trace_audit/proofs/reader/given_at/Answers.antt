use Rattle.trace_audit.proofs.Cited.{sym, ◌∙◌}
use Rattle.trace_audit.proofs.LineParts.{given-none}
use Rattle.trace_audit.proofs.reader.given_at.Goals as goal

pub returns-else-is_empty-2 : goal.returns-else-is_empty-2
returns-else-is_empty-2 c =
    given-none c.args.text.now c.in_ok-behind.field-0.now c.in_ok-units.units c.in_ok-units.rest.now
    (sym c.is_empty.ensures ∙ c.if-is_empty.false)
    c.in_ok-behind.ensures c.in_ok-units.ensures (sym c.is_empty-2.ensures ∙ c.if-is_empty-2.false)
