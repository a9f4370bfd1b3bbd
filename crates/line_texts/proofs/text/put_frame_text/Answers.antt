use Rattle.line_texts.proofs.Names.{◌≡◌, ◌++◌, codes, append_assoc, refl, ◌∙◌, ap, option_map, direction_word, if_numbered, poll_word}
use Rattle.line_texts.proofs.Names.{information_words, text_of}
use Rattle.line_texts.proofs.text.put_frame_text.Goals as goal

pub returns-clause-text : goal.returns-clause-text
returns-clause-text c =
    let out = c.args.out.now in
    let parts = c.parts-parts.result in
    let direction = direction_word parts.ns parts.command in
    let sent = if_numbered (codes " s=") parts.ns in
    let received = if_numbered (codes " r=") parts.nr in
    let poll = poll_word parts.pf in
    let information = information_words c.break_in.result (option_map (λ info. info.now) parts.info) in
    let together : out ++ parts.name.now ++ direction ++ sent ++ received ++ poll ++ information
    ≡ out ++ (parts.name.now ++ direction ++ sent ++ received ++ poll ++ information) = simp append_assoc refl in
    c.put_information.ensures.text
    ∙ ap (λ l. l ++ information)
    (c.put_poll.ensures.text
    ∙ ap (λ l. l ++ poll)
    (c.put_number-2.ensures.text
    ∙ ap (λ l. l ++ received)
    (c.put_number.ensures.text ∙ ap (λ l. l ++ sent) (c.put_direction.ensures.text ∙ ap (λ l. l ++ direction) c.extend.ensures))))
    ∙ together ∙ (λ k. out ++ text_of (c.parts-parts.ensures.parts k) (c.break_in.ensures k))
