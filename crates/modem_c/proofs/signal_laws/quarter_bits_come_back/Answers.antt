use Rattle.modem_c.proofs.Signals.{quarter-bits-come-back, all-quarter-bits-come-back}
use Rattle.modem_c.proofs.signal_laws.quarter_bits_come_back.Goals as goal

pub returns : goal.returns
returns c = record {
  near = quarter-bits-come-back c.quarter_bits_come_back.ensures.near;
  all = all-quarter-bits-come-back c.quarter_bits_come_back.ensures.all;
}
