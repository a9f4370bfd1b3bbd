use Rattle.lapm_receiver.proofs.Rows.{seen-fill}
use Rattle.lapm_receiver.proofs.slots.Slots.new.Goals as goal

pub returns : goal.returns
returns c = rw (c.fill.ensures, c.in_ok-ring.ensures, c.from.ensures) (seen-fill _ _)
