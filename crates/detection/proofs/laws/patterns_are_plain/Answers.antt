use Rattle.detection.proofs.Names.{arith}
use Rattle.detection.proofs.Written.{pattern-plain, mark-plain}
use Rattle.detection.proofs.laws.patterns_are_plain.Goals as goal

pub returns : goal.returns
returns c = record { patterns = λ size seen h. pattern-plain size seen (omega arith); marks = λ size h. mark-plain size (omega arith) }
