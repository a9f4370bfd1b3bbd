use Rattle.line_tap.proofs.Cited.{◌∙◌, Bool, List, ap, sym, subst, arith, DeframerStands, pieces_of}
use Rattle.line_tap.proofs.Seeking.{quad-more}
use Rattle.line_tap.proofs.seeker.passes_quad.Goals as goal

pub returns-clause-stands : goal.returns-clause-stands
returns-clause-stands c = λ yes from low h.
    let more =
    quad-more c.args.slot.now from c.args.place c.quad.result low (omega (arith, c.if-place-gt0.false)) c.requires c.quad.ensures.value in
    subst (λ (xs : List Bool). DeframerStands c.pass_four.new.self xs) more (c.pass_four.ensures.stands yes _ h)

pub returns-clause-quiet : goal.returns-clause-quiet
returns-clause-quiet c = λ yes from low h.
    let more =
    quad-more c.args.slot.now from c.args.place c.quad.result low (omega (arith, c.if-place-gt0.false)) c.requires c.quad.ensures.value in
    ap pieces_of (sym more) ∙ c.pass_four.ensures.quiet yes _ h
