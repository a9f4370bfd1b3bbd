use Rattle.bit_stuffing.proofs.Names.{arith, sym, subst, Gathers, DeframerStands, content}
use Rattle.bit_stuffing.proofs.Passing.{gathered-all}
use Rattle.bit_stuffing.proofs.deframer.Deframer.gather_octet.Goals as goal

pub returns-in-Some-clause-gathers : goal.returns-in-Some-clause-gathers
returns-in-Some-clause-gathers c = λ past h p o far.
    let s = subst (λ v. DeframerStands v past) (sym c.self.view_is) h in
    let e = c.in-Some.ensures.octet past s.finds in
    subst (Gathers c.push_octet.new.self) (gathered-all past p c.in-Some.octet far e.1)
    (c.push_octet.ensures (content past p) (s.gathers p o far))

pub returns-in-None-clause-gathers : goal.returns-in-None-clause-gathers
returns-in-None-clause-gathers c = λ past h p o far.
    let s = subst (λ v. DeframerStands v past) (sym c.self.view_is) h in
    absurd (omega (arith, far, c.in-None.ensures.near past s.finds p o))
