use Rattle.lapm_receiver.proofs.Names.{sym, subst, StandsIn}
use Rattle.lapm_receiver.proofs.Standing.{stands-kept}
use Rattle.lapm_receiver.proofs.receiver.Receiver.take_early.Goals as goal

pub returns-clause-stands : goal.returns-clause-stands
returns-clause-stands c i h =
    rw c.keep.ensures (stands-kept _ i c.args.ahead c.args.info.now (subst (λ t. StandsIn t i) (sym c.self.view_is) h))
