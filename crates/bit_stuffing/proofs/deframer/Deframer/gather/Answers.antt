use Rattle.bit_stuffing.proofs.Names.{sym, subst, DeframerStands}
use Rattle.bit_stuffing.proofs.Contents.{gathers-within, gathers-outside}
use Rattle.bit_stuffing.proofs.deframer.Deframer.gather.Goals as goal

pub returns-in-Some-clause-gathers : goal.returns-in-Some-clause-gathers
returns-in-Some-clause-gathers c = λ past bit h.
    let s = subst (λ v. DeframerStands v past) (sym c.self.view_is) h in
    gathers-within past bit c.in-Some.bit _ _ (c.in-Some.ensures.far past s.finds) s.gathers
    (c.in-Some.ensures.bit past s.finds) c.push.ensures

pub returns-in-None-clause-gathers : goal.returns-in-None-clause-gathers
returns-in-None-clause-gathers c = λ past bit h.
    let s = subst (λ v. DeframerStands v past) (sym c.self.view_is) h in
    gathers-outside past bit _ (c.in-None.ensures.near past s.finds) c.clear.ensures
