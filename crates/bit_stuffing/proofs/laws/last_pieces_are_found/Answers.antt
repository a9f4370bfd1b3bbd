use Rattle.bit_stuffing.proofs.Tails.{last-pieces-are-found}
use Rattle.bit_stuffing.proofs.laws.last_pieces_are_found.Goals as goal

pub returns : goal.returns
returns c = last-pieces-are-found
