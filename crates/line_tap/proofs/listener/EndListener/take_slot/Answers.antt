use Rattle.line_tap.proofs.Cited.{sym, subst, Passed, Sent, Overhears}
use Rattle.line_tap.proofs.listener.EndListener.take_slot.Goals as goal

pub returns-in-Frame-clause-stands : goal.returns-in-Frame-clause-stands
returns-in-Frame-clause-stands c = λ terms role agreed connected i lengths h.
    subst (λ (s : Sent). Overhears c.take.new.self terms role agreed connected i lengths (Passed s)) (sym c.in-Frame.is)
    (c.take.ensures.stands terms role agreed connected i lengths h)
