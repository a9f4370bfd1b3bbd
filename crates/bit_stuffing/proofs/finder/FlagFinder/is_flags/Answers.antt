use Rattle.bit_stuffing.proofs.Names.{◌∙◌, sym, subst, ap, eqb-true, rotate_right, w8, Finds, PassesBits, octet_bits}
use Rattle.bit_stuffing.proofs.Fours.{passes-flags}
use Rattle.bit_stuffing.proofs.finder.FlagFinder.is_flags.Goals as goal

pub returns-then-octet-self-clause-passes : goal.returns-then-octet-self-clause-passes
returns-then-octet-self-clause-passes c = λ e past h.
    let s = subst (λ v. Finds v past) (sym c.self.view_is) h in
    subst (λ v. PassesBits v past (octet_bits c.args.octet)) c.self.view_is
    (passes-flags _ past c.args.octet c.in-Some.count s c.in-Some.is c.if-count-lt8.true c.if-octet-self.true
    (eqb-true c.args.octet c.rotate_right.result e ∙ c.rotate_right.ensures ∙ ap (rotate_right w8 126) c.from.ensures))
