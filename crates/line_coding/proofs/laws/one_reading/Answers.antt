use Rattle.line_coding.proofs.Names.{line_of, Descrambles_once}
use Rattle.line_coding.proofs.Readings.{four-each}
use Rattle.line_coding.proofs.laws.one_reading.Goals as goal

pub returns-clause-one : goal.returns-clause-one
returns-clause-one c = λ tap labels bits other. Descrambles_once tap (line_of labels) bits other

pub returns-clause-length : goal.returns-clause-length
returns-clause-length c = four-each
