use Rattle.gateway.proofs.SentQuarters.{quarter-bits-come-back, all-quarter-bits-come-back}
use Rattle.gateway.proofs.signal_laws.quarter_bits_come_back.Goals as goal

pub returns : goal.returns
returns c = record {
  near = quarter-bits-come-back c.all_are_released.ensures c.near_ones_are_read.ensures;
  all = all-quarter-bits-come-back c.all_are_released.ensures c.near_ones_are_read.ensures;
}
