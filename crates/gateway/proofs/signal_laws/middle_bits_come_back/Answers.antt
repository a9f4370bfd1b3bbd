use Rattle.gateway.proofs.SentMiddle.{middle-bits-come-back}
use Rattle.gateway.proofs.signal_laws.middle_bits_come_back.Goals as goal

pub returns : goal.returns
returns c = middle-bits-come-back c.readers_pick_up.ensures c.bits_in_the_middle_are_those_sent.ensures
    c.decoders_follow_a_line_from_any_start.ensures
