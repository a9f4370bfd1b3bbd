use Rattle.bit_stuffing.proofs.Names.{sym, subst, eqb-true, Finds}
use Rattle.bit_stuffing.proofs.Openings.{is_far, is_near}
use Rattle.bit_stuffing.proofs.finder.FlagFinder.is_far.Goals as goal

pub returns-in-Some-clause-far : goal.returns-in-Some-clause-far
returns-in-Some-clause-far c = λ yes past h.
    let s = subst (λ v. Finds v past) (sym c.self.view_is) h in
    is_far past c.in-Some.count (eqb-true c.in-Some.count 8 yes) (rw c.in-Some.is at s.counts)

pub returns-in-Some-clause-near : goal.returns-in-Some-clause-near
returns-in-Some-clause-near c = λ isnt past h.
    let s = subst (λ v. Finds v past) (sym c.self.view_is) h in
    is_near past c.in-Some.count isnt (rw c.in-Some.is at s.counts)

pub returns-in-None-clause-near : goal.returns-in-None-clause-near
returns-in-None-clause-near c = λ isnt past h p o.
    let s = subst (λ v. Finds v past) (sym c.self.view_is) h in
    absurd ((rw c.in-None.is at s.counts) p o)
