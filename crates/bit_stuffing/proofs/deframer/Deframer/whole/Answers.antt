use Rattle.bit_stuffing.proofs.Names.{sym, subst, ◌∙◌, inl, inr, refl, [], DeframerStands, Lends}
use Rattle.bit_stuffing.proofs.Found.{lent-is, lent-once}
use Rattle.bit_stuffing.proofs.deframer.Deframer.whole.Goals as goal

pub returns-then-self-clause-value : goal.returns-then-self-clause-value
returns-then-self-clause-value c = λ past h.
    let s = subst (λ v. DeframerStands v past) (sym c.self.view_is) h in
    let lends = subst (λ l. Lends l c.self.inside.unstuffer.octets past) c.if-self.true s.lends in
    c.octets.ensures ∙ lent-once past _ _ (inl lends) (lent-is past)

pub returns-else-self-clause-value : goal.returns-else-self-clause-value
returns-else-self-clause-value c = λ past h.
    let s = subst (λ v. DeframerStands v past) (sym c.self.view_is) h in
    let lends = subst (λ l. Lends l c.self.inside.unstuffer.octets past) c.if-self.false s.lends in
    lent-once past [] _ (inr (refl, lends)) (lent-is past)
