use Rattle.bit_stuffing.proofs.Sizes.{plain-by_tests}
use Rattle.bit_stuffing.proofs.laws.plain_by_tests.Goals as goal

pub returns : goal.returns
returns c = plain-by_tests
