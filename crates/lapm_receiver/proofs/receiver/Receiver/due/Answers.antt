use Rattle.lapm_receiver.proofs.Names.{sym, subst, ◌∙◌, StandsIn}
use Rattle.lapm_receiver.proofs.Standing.{asks-found}
use Rattle.lapm_receiver.proofs.receiver.Receiver.due.Goals as goal

pub returns-then-self-clause-asks : goal.returns-then-self-clause-asks
returns-then-self-clause-asks c i h =
    c.first_missing.ensures.missing
    ∙ asks-found _ i (subst (λ t. StandsIn t i) (sym c.self.view_is) h) c.first_missing.ensures.rising c.if-self.true
