use Rattle.bit_stuffing.proofs.Names.{◌∙◌, arith, sym, subst, false≢true, Finds}
use Rattle.bit_stuffing.proofs.Quiet.{latest-bits}
use Rattle.bit_stuffing.proofs.finder.FlagFinder.leaving_octet.Goals as goal

pub returns-then-is_far-clause-octet : goal.returns-then-is_far-clause-octet
returns-then-is_far-clause-octet c = λ past h.
    let s = subst (λ v. Finds v past) (sym c.self.view_is) h in
    let far = c.is_far.ensures.far c.if-is_far.true past h in
    (far, latest-bits c.self.inside.latest past s.holds (omega (arith, far.far)))

pub returns-else-is_far-clause-near : goal.returns-else-is_far-clause-near
returns-else-is_far-clause-near c = λ past h. c.is_far.ensures.near (λ e. false≢true (sym c.if-is_far.false ∙ e)) past h
