use Rattle.std.proofs.Common.{◌≡◌, subst}
use Rattle.lapm_sender.proofs.Marks.{nothing-first}
use Rattle.lapm_sender.proofs.segments.Segments.choose_none.Goals as goal

pub returns : goal.returns
returns c = subst (λ ns. c.loop-self.self ≡ record c.args.self.now { chosen = ns })
    (nothing-first _ _ c.least_chosen.ensures.value c.loop-self-test.ensures) c.loop-self.invariant
