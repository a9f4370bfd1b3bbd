use Rattle.lapm_receiver.proofs.Names.{◌≡◌, length, subst}
use Rattle.lapm_receiver.proofs.Rows.{ready-count}
use Rattle.lapm_receiver.proofs.slots.Slots.ready.Goals as goal

pub returns-clause-ready : goal.returns-clause-ready
returns-clause-ready c =
    subst (λ v. c.unwrap_or.result ≡ length v.ready) c.self.view_is
    (rw (c.unwrap_or.ensures, c.len.ensures.len) (ready-count c.self.inside.ring.items c.first_empty.result c.first_empty.ensures.place))
