use Rattle.noise_script.proofs.Names.{sym, ◌∙◌, err_from_is_err_and}
use Rattle.noise_script.proofs.Words.{spells-line, miscounts, misreads}
use Rattle.noise_script.proofs.reading.read_line.Goals as goal

pub returns-then-count_words-arguments : goal.returns-then-count_words-arguments
returns-then-count_words-arguments c =
    miscounts _ _ _ _ c.in-Some.ensures.some c.in-Some-of_word.ensures.some
    (λ e. c.if-count_words-arguments.true (c.count_words.ensures ∙ e ∙ sym c.arguments.ensures))

pub returns-in_err-read_entry : goal.returns-in_err-read_entry
returns-in_err-read_entry c =
    let q = err_from_is_err_and c.from_residual.result c.from_residual.ensures.1 in
    rw (q.1, q.2) (misreads _ _ _ _ _ c.in-Some.ensures.some c.in-Some-of_word.ensures.some
    (sym c.count_words.ensures ∙ c.if-count_words-arguments.false ∙ c.arguments.ensures) c.in_err-read_entry.ensures)

pub returns : goal.returns
returns c = spells-line _ _ _ _ _ c.in-Some.ensures.some c.in-Some-of_word.ensures.some c.in_ok-read_entry.ensures
