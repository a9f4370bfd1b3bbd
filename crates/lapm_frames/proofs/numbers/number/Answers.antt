use Rattle.lapm_frames.proofs.Names.{arith}
use Rattle.std.proofs.lemmas.Bool.Decides.{nat_tests}
use Rattle.lapm_frames.proofs.numbers.number.Goals as goal

pub returns-clause-spelled : goal.returns-clause-spelled
returns-clause-spelled c = grind (arith, nat_tests)
