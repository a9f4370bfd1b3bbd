use Rattle.modem_c.proofs.Signals.{sent-bits-come-back, sent-bits-come-soon, all-bits-come-back}
use Rattle.modem_c.proofs.signal_laws.sent_bits_come_back.Goals as goal

pub returns : goal.returns
returns c = record {
  near = sent-bits-come-back c.sent_bits_come_back.ensures.near;
  soon = sent-bits-come-soon c.sent_bits_come_back.ensures.soon;
  all = all-bits-come-back c.sent_bits_come_back.ensures.all;
}
