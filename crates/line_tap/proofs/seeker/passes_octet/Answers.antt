use Rattle.line_tap.proofs.Cited.{◌∙◌, Bool, List, ap, sym, subst, arith, DeframerStands, pieces_of}
use Rattle.line_tap.proofs.Seeking.{octet-more}
use Rattle.line_tap.proofs.seeker.passes_octet.Goals as goal

pub returns-clause-stands : goal.returns-clause-stands
returns-clause-stands c = λ yes from low h.
    let more =
    octet-more c.args.slot.now from c.args.place c.quad.result c.quad-2.result low (omega arith) (omega arith) c.quad.ensures.bound
    c.quad.ensures.value c.quad-2.ensures.value in
    subst (λ (xs : List Bool). DeframerStands c.pass.new.self xs) more (c.pass.ensures.stands yes _ h)

pub returns-clause-quiet : goal.returns-clause-quiet
returns-clause-quiet c = λ yes from low h.
    let more =
    octet-more c.args.slot.now from c.args.place c.quad.result c.quad-2.result low (omega arith) (omega arith) c.quad.ensures.bound
    c.quad.ensures.value c.quad-2.ensures.value in
    ap pieces_of (sym more) ∙ c.pass.ensures.quiet yes _ h
