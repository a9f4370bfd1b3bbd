use Rattle.line_tap.proofs.listener.EndListener.take_segment.Goals as goal

pub returns-clause-stands : goal.returns-clause-stands
returns-clause-stands c = λ terms role agreed connected i lengths h. assumption (c.take.ensures.stands i h.takes)
