use Rattle.lapm_receiver.proofs.Names.{sym, subst, StandsIn}
use Rattle.lapm_receiver.proofs.Standing.{stands-asked, none-due}
use Rattle.lapm_receiver.proofs.receiver.Receiver.asked.Goals as goal

pub returns-in-Some-clause-stands : goal.returns-in-Some-clause-stands
returns-in-Some-clause-stands c i n h a =
    stands-asked _ i _ n (subst (λ t. StandsIn t i) (sym c.self.view_is) h) c.in-Some.ensures.rising c.if-self.true
    c.in-Some.ensures.missing a

pub returns-in_default-clause-stands : goal.returns-in_default-clause-stands
returns-in_default-clause-stands c i n h a =
    absurd (none-due _ i n
    (subst (λ t. StandsIn t i) (sym c.self.view_is) h) c.in_default.ensures.rising c.if-self.true c.in_default.ensures.missing a)
