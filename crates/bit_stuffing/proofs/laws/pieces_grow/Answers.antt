use Rattle.bit_stuffing.proofs.Found.{pieces-none, pieces-more}
use Rattle.bit_stuffing.proofs.laws.pieces_grow.Goals as goal

pub returns : goal.returns
returns c = record { none = pieces-none; more = pieces-more }
