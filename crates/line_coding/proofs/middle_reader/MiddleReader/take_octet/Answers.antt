use Rattle.line_coding.proofs.Names.{◌<◌, arith, sym, subst, at_any, Middle, MiddleRead}
use Rattle.line_coding.specs.Reading.{bits_in}
use Rattle.line_coding.proofs.Taking.{middle-later}
use Rattle.line_coding.proofs.middle_reader.MiddleReader.take_octet.Goals as goal

pub returns-clause-stands : goal.returns-clause-stands
returns-clause-stands g c mode samples bits h =
    let many : 6 < c.self.inside.taken = omega (arith, c.if-self-le-SILENT.false) in
    middle-later mode g.row.DEPTH c.self.inside.reader c.take_two.new.self c.self.inside.taken
    (bits_in 8 c.take_two.result) samples bits many
    (c.take_two.ensures.stands mode at_any samples)
    (subst (λ (m : Middle). MiddleRead mode g.row.DEPTH m samples bits) (sym c.self.view_is) h)
