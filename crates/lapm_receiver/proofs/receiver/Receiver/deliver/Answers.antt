use Rattle.lapm_receiver.proofs.Names.{sym, subst, StandsIn}
use Rattle.lapm_receiver.proofs.Standing.{stands-delivered}
use Rattle.lapm_receiver.proofs.receiver.Receiver.deliver.Goals as goal

pub returns-clause-stands : goal.returns-clause-stands
returns-clause-stands c i h = rw c.deliver.ensures.delivered (stands-delivered _ i (subst (λ t. StandsIn t i) (sym c.self.view_is) h))
