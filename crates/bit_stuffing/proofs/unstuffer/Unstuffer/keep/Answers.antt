use Rattle.bit_stuffing.proofs.Names.{sym, subst, arith, KeepsBits}
use Rattle.bit_stuffing.proofs.Gather.{keeps-over}
use Rattle.bit_stuffing.proofs.unstuffer.Unstuffer.keep.Goals as goal

pub returns-then-len-eq-WHOLE-clause-keeps : goal.returns-then-len-eq-WHOLE-clause-keeps
returns-then-len-eq-WHOLE-clause-keeps c = λ kept h.
    let k = subst (λ v. KeepsBits v.over v.octets v.part v.held kept) (sym c.self.view_is) h in
    keeps-over c.self.inside.octets c.self.inside.part c.self.inside.held kept c.args.bit (omega arith)
    (subst (λ o. KeepsBits o c.self.inside.octets c.self.inside.part c.self.inside.held kept) c.if-self.false k)
