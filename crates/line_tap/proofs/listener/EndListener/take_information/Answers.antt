use Rattle.line_tap.proofs.Cited.{◌≡◌, ◌++◌, sym, ◌∙◌, ap, subst, Ok, Listens, given_in, given_by_word}
use Rattle.break_signals.specs.Words.{word_in}
use Rattle.line_tap.proofs.listener.EndListener.take_information.Goals as goal

pub returns-in-Ok-clause-given : goal.returns-in-Ok-clause-given
returns-in-Ok-clause-given c = λ terms role agreed connected i lengths h.
    let word : Ok c.in-Ok.word ≡ word_in c.args.info.now =
    sym c.in-Ok.is ∙ c.read_break.ensures.word ∙ ap word_in c.as_slice.ensures.items in
    c.take_word.ensures.given terms role agreed connected i lengths h ∙ ap (λ w. given_by_word w lengths) word

pub returns-in-Ok-clause-stands : goal.returns-in-Ok-clause-stands
returns-in-Ok-clause-stands c = λ terms role agreed connected i lengths h.
    let word : Ok c.in-Ok.word ≡ word_in c.args.info.now =
    sym c.in-Ok.is ∙ c.read_break.ensures.word ∙ ap word_in c.as_slice.ensures.items in
    subst (λ w. Listens c.take_word.new.self terms role agreed connected i (lengths ++ given_in (given_by_word w lengths))) word
    (c.take_word.ensures.stands terms role agreed connected i lengths h)
