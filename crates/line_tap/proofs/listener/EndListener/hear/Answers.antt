use Rattle.line_tap.proofs.Cited.{sym, subst, Heard, Overhears}
use Rattle.line_tap.proofs.listener.EndListener.hear.Goals as goal

pub returns-in-Passed-clause-stands : goal.returns-in-Passed-clause-stands
returns-in-Passed-clause-stands c = λ terms role agreed connected i lengths h.
    subst (λ (x : Heard). Overhears c.take_slot.new.self terms role agreed connected i lengths x) (sym c.in-Passed.is)
    (c.take_slot.ensures.stands terms role agreed connected i lengths h)
