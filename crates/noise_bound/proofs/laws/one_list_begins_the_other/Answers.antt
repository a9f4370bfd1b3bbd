use Rattle.noise_bound.proofs.PickedUp.{one-picked-up-begins, one-list-of-pieces-begins}
use Rattle.noise_bound.proofs.laws.one_list_begins_the_other.Goals as goal

pub returns : goal.returns
returns c = record { bits = one-picked-up-begins; pieces = one-list-of-pieces-begins }
