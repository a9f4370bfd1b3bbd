use Rattle.bit_stuffing.proofs.Names.{sym, subst, refl, ◌∙◌, Gathers, removed}
use Rattle.bit_stuffing.proofs.Gather.{gathers-skip, gathers-take}
use Rattle.bit_stuffing.proofs.unstuffer.Unstuffer.push.Goals as goal
use Rattle.bit_stuffing.proofs.unstuffer.Unstuffer.push.Goals.{then-bit, else-bit}

pub returns-then-self-eq0 : goal.returns-then-self-eq0
returns-then-self-eq0 c = λ line h.
    let g = subst (λ v. Gathers v line) (sym c.self.view_is) h in
    gathers-skip _ _ line c.args.bit g c.if-self-eq0.true refl

pub returns-after-bit : goal.returns-after-bit
returns-after-bit c = λ line h.
    let g = subst (λ v. Gathers v line) (sym c.self.view_is) h in
    elim c.if-bit.branch [
      | then-bit w ↦ gathers-take _ _ line c.args.bit g c.if-self-eq0.false (c.keep.ensures.room ∙ rw (w.self-is, w.if-bit.true) refl)
          (c.keep.ensures.keeps (removed 5 line))
      | else-bit w ↦ gathers-take _ _ line c.args.bit g c.if-self-eq0.false (c.keep.ensures.room ∙ rw (w.self-is, w.if-bit.false) refl)
          (c.keep.ensures.keeps (removed 5 line))
    ]
