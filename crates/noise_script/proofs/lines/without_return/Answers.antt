use Rattle.noise_script.proofs.Names.{◌++◌, ◌∷◌, [], sym, ap, ◌∙◌, without_return}
use Rattle.noise_script.proofs.Cuts.{return-gone, return-kept}
use Rattle.noise_script.proofs.lines.without_return.Goals as goal

pub returns-then-last-eq13 : goal.returns-then-last-eq13
returns-then-last-eq13 c =
    sym (ap without_return c.in-Some.ensures.cases.0 ∙ ap (λ x. without_return (c.in-Some.front.now ++ x ∷ [])) c.if-last-eq13.true
    ∙ return-gone c.in-Some.front.now)

pub returns-else-last-eq13 : goal.returns-else-last-eq13
returns-else-last-eq13 c =
    sym (ap without_return c.in-Some.ensures.cases.0 ∙ return-kept _ _ c.if-last-eq13.false ∙ sym c.in-Some.ensures.cases.0)
