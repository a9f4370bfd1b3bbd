use Rattle.gateway.proofs.SentBegun.{sure-bits-are-given}
use Rattle.gateway.proofs.signal_laws.sure_bits_are_given.Goals as goal

pub returns : goal.returns
returns c = sure-bits-are-given c.decoders_follow_a_line.ensures c.sure_recordings_are_decoded.ensures.near
