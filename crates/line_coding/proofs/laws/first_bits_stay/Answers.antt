use Rattle.line_coding.proofs.Readings.{first-stay}
use Rattle.line_coding.proofs.laws.first_bits_stay.Goals as goal

pub returns : goal.returns
returns c = first-stay
