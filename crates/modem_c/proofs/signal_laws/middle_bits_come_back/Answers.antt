use Rattle.modem_c.proofs.Signals.{middle-bits-come-back}
use Rattle.modem_c.proofs.signal_laws.middle_bits_come_back.Goals as goal

pub returns : goal.returns
returns c = middle-bits-come-back c.middle_bits_come_back.ensures
