use Rattle.line_texts.proofs.Names.{◌++◌, sym, ◌∙◌, ap, option_map, if_informed}
use Rattle.line_texts.proofs.words.put_count.Goals as goal

pub returns-in-Some-clause-text : goal.returns-in-Some-clause-text
returns-in-Some-clause-text c =
    c.put_labelled.ensures.text ∙ ap (λ info. c.args.out.now ++ if_informed (option_map (λ octets. octets.now) info)) (sym c.in-Some.is)
