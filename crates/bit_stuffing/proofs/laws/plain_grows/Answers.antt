use Rattle.bit_stuffing.proofs.Sizes.{plain-grows}
use Rattle.bit_stuffing.proofs.laws.plain_grows.Goals as goal

pub returns : goal.returns
returns c = plain-grows
