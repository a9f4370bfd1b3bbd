use Rattle.lapm_receiver.proofs.Rows.{seen-fill}
use Rattle.lapm_receiver.proofs.slots.Slots.restart.Goals as goal

pub returns : goal.returns
returns c = rw (c.fill.ensures, c.clear.ensures, ← c.self.view_is) (seen-fill _ _)
