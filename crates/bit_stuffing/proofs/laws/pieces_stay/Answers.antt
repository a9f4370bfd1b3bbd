use Rattle.bit_stuffing.proofs.Sent.{pieces-stay}
use Rattle.bit_stuffing.proofs.laws.pieces_stay.Goals as goal

pub returns : goal.returns
returns c = pieces-stay
