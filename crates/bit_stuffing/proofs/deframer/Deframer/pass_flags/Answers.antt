use Rattle.bit_stuffing.proofs.Names.{refl, sym, subst, DeframerStands, octet_bits}
use Rattle.bit_stuffing.proofs.Passing.{flags-stands}
use Rattle.bit_stuffing.proofs.deframer.Deframer.pass_flags.Goals as goal

pub returns-clause-stands : goal.returns-clause-stands
returns-clause-stands c = λ e past h.
    let s = subst (λ v. DeframerStands v past) (sym c.self.view_is) h in
    flags-stands c.self.inside.finder c.self.inside.unstuffer past (octet_bits c.args.octet)
    (c.if-not-is_flags.ensures.passes refl past s.finds) (c.if-not-is_flags.ensures.near refl)

pub returns-clause-quiet : goal.returns-clause-quiet
returns-clause-quiet c = λ e past h.
    let s = subst (λ v. DeframerStands v past) (sym c.self.view_is) h in
    (c.if-not-is_flags.ensures.passes refl past s.finds).pieces
