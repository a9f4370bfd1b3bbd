use Rattle.rate_4800.proofs.Reading.{near-read}
use Rattle.rate_4800.proofs.laws.near_ones_are_read.Goals as goal

pub returns : goal.returns
returns c = near-read
