use Rattle.noise_bound.proofs.PickedUp.{readers-pieces-begin}
use Rattle.noise_bound.proofs.laws.readers_pick_up_the_same_pieces.Goals as goal

pub returns : goal.returns
returns c = readers-pieces-begin
