use Rattle.modem_c.proofs.Signals.{sure-bits-are-given}
use Rattle.modem_c.proofs.signal_laws.sure_bits_are_given.Goals as goal

pub returns : goal.returns
returns c = sure-bits-are-given c.sure_bits_are_given.ensures
