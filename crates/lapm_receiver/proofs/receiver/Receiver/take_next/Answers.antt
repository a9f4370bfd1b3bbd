use Rattle.lapm_receiver.proofs.Names.{◌≡◌, length, sym, subst, StandsIn}
use Rattle.lapm_receiver.proofs.Standing.{stands-next}
use Rattle.lapm_receiver.proofs.receiver.Receiver.take_next.Goals as goal

pub returns-clause-stands : goal.returns-clause-stands
returns-clause-stands c i h =
    let before = subst (λ t. StandsIn t i) (sym c.self.view_is) h in
    rw c.take.ensures.taken
    (stands-next _ i c.args.info.now before (subst (λ t. length t.ready ≡ 0) (sym c.self.view_is) c.requires.delivered))
