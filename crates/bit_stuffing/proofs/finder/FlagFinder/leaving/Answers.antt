use Rattle.bit_stuffing.proofs.Names.{sym, subst, ◌∙◌, false≢true, Finds}
use Rattle.bit_stuffing.proofs.Latest.{latest-oldest}
use Rattle.bit_stuffing.proofs.finder.FlagFinder.leaving.Goals as goal

pub returns-then-is_far-clause-bit : goal.returns-then-is_far-clause-bit
returns-then-is_far-clause-bit c = λ past h.
    let s = subst (λ v. Finds v past) (sym c.self.view_is) h in
    latest-oldest c.self.inside.latest past s.holds

pub returns-then-is_far-clause-far : goal.returns-then-is_far-clause-far
returns-then-is_far-clause-far c = λ past h. c.is_far.ensures.far c.if-is_far.true past h

pub returns-else-is_far-clause-near : goal.returns-else-is_far-clause-near
returns-else-is_far-clause-near c = λ past h. c.is_far.ensures.near (λ e. false≢true (sym c.if-is_far.false ∙ e)) past h
