use Rattle.gateway.proofs.SentBegun.{sent-bits-come-back, sent-bits-come-soon, all-bits-come-back}
use Rattle.gateway.proofs.signal_laws.sent_bits_come_back.Goals as goal

pub returns : goal.returns
returns c = record {
  near = sent-bits-come-back c.decoders_follow_a_line.ensures;
  soon = sent-bits-come-soon c.decoders_follow_a_line_without_noise.ensures;
  all = all-bits-come-back c.only_the_sent_labels_are_least.ensures;
}
