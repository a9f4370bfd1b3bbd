use Rattle.noise_script.proofs.Names.{ap, sym, ◌∙◌, words_of}
use Rattle.noise_script.proofs.lines.first_word.Goals as goal

pub cut_word-requires : goal.cut_word-requires
cut_word-requires c = c.without_blanks.ensures.word (λ e. c.requires (sym c.without_blanks.ensures.words ∙ ap words_of e))
