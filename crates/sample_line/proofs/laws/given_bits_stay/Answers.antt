use Rattle.sample_line.proofs.Once.{given-once, given-stays}
use Rattle.sample_line.proofs.laws.given_bits_stay.Goals as goal

pub returns-clause-once : goal.returns-clause-once
returns-clause-once c = given-once

pub returns-clause-stay : goal.returns-clause-stay
returns-clause-stay c = given-stays
