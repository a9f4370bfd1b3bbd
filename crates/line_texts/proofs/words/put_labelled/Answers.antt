use Rattle.line_texts.proofs.Names.{◌≤◌, ◌+◌, length, sym, subst, ◌∙◌, append_assoc}
use Rattle.line_texts.proofs.Fits.{length-labelled}
use Rattle.line_texts.proofs.words.put_labelled.Goals as goal

pub returns-clause-short : goal.returns-clause-short
returns-clause-short c =
    let text = c.put_decimal.ensures.text ∙ rw c.extend.ensures (append_assoc c.args.out.now c.args.label.now _) in
    subst (λ octets. length octets ≤ length c.args.out.now + length c.args.label.now + 4) (sym text)
    (length-labelled c.args.out.now c.args.label.now c.args.count c.requires.count)
