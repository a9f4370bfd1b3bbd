use Rattle.line_texts.proofs.Names.{◌++◌, codes, append_assoc, sym, ◌∙◌, ap, slot_word, heard_word}
use Rattle.line_texts.proofs.slots.put_heard.Goals as goal

pub returns-in-Lost-clause-text : goal.returns-in-Lost-clause-text
returns-in-Lost-clause-text c =
    let out = c.args.out.now in
    let slot = slot_word c.in-Lost.slot in
    c.put_slot-in-Lost.ensures.text ∙ ap (λ l. l ++ slot) c.extend.ensures ∙ append_assoc out (codes "lost ") slot
    ∙ ap (λ heard. out ++ heard_word heard) (sym c.in-Lost.is)
