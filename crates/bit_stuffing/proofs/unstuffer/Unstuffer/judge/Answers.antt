use Rattle.bit_stuffing.proofs.Names.{sym, subst, arith, Gathers, IsWhole}
use Rattle.bit_stuffing.proofs.Gather.{judge-held, judge-ones, judge-short, judge-whole}
use Rattle.bit_stuffing.proofs.unstuffer.Unstuffer.judge.Goals as goal
use Rattle.bit_stuffing.proofs.unstuffer.Unstuffer.judge.Goals.{then-self-ne0-via-then-self-ne0}
use Rattle.bit_stuffing.proofs.unstuffer.Unstuffer.judge.Goals.{then-self-ne0-via-else-self-ne0+then-self-eq0}

pub returns-then-self-ne0-clause-judged : goal.returns-then-self-ne0-clause-judged
returns-then-self-ne0-clause-judged c = λ line f h.
    let g = subst (λ v. Gathers v line) (sym c.self.view_is) h in
    elim c.then-self-ne0.branch [
      | then-self-ne0-via-then-self-ne0 w ↦
          judge-held _ line g c.if-self.false w.if-self-ne0.true (omega (arith, c.self.invariant)) (omega (arith, c.self.invariant))
      | then-self-ne0-via-else-self-ne0+then-self-eq0 w ↦
          judge-ones _ line g c.if-self.false w.if-self-eq0.true (omega (arith, c.self.invariant))
    ]

pub returns-then-len-lt-SHORTEST-clause-judged : goal.returns-then-len-lt-SHORTEST-clause-judged
returns-then-len-lt-SHORTEST-clause-judged c = λ line f h.
    let g = subst (λ v. Gathers v line) (sym c.self.view_is) h in
    judge-short _ line f g c.if-self.false c.if-self-ne0.false c.if-self-eq0.false (omega arith)

pub returns-clause-judged : goal.returns-clause-judged
returns-clause-judged c = λ line f h.
    let g = subst (λ v. Gathers v line) (sym c.self.view_is) h in (
      c.self.inside.octets,
      judge-whole _ line f g c.if-self.false c.if-self-ne0.false c.if-self-eq0.false (omega arith) (omega (arith, c.self.invariant)),
    )

pub returns-clause-whole : goal.returns-clause-whole
returns-clause-whole c = λ line f h e.
    let g = subst (λ v. Gathers v line) (sym c.self.view_is) h in
    subst (λ v. IsWhole line v.octets) c.self.view_is
    (judge-whole _ line f g c.if-self.false c.if-self-ne0.false c.if-self-eq0.false (omega arith) (omega (arith, c.self.invariant)))
