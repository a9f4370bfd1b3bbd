use Rattle.bit_stuffing.proofs.Sizes.{length-empty, length-opening}
use Rattle.bit_stuffing.proofs.laws.opening_is_short.Goals as goal

pub returns : goal.returns
returns c = record { without = length-empty; with_frame = length-opening }
