use Rattle.line_texts.proofs.Names.{◌++◌, ◌∙◌, ap, option_map, sent_word, break_word}
use Rattle.line_texts.proofs.trace_line.put_reply.Goals as goal

pub returns-clause-text : goal.returns-clause-text
returns-clause-text c =
    c.put_given.ensures.text
    ∙ ap (λ l. l ++ break_word c.args.given)
    (c.put_sent.ensures.text ∙ (λ k. c.extend.ensures k ++ sent_word (option_map (λ slot. slot.now) c.args.sent)))
