use Rattle.line_coding.proofs.Names.{[], refl}
use Rattle.line_coding.proofs.middle_reader.MiddleReader.new.Goals as goal

pub returns-clause-stands : goal.returns-clause-stands
returns-clause-stands g c = record { all = []; read = c.in_ok-new_any.ensures.stands; bits_are = refl; counted = refl }
