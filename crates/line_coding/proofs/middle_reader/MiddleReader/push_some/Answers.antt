use Rattle.line_coding.proofs.Names.{◌++◌, sym, subst, at_any, Middle, MiddleRead}
use Rattle.exact_decoder.specs.Batches.{heard_of}
use Rattle.line_coding.proofs.Taking.{middle-pushed}
use Rattle.line_coding.proofs.middle_reader.MiddleReader.push_some.Goals as goal

pub returns-clause-stands : goal.returns-clause-stands
returns-clause-stands g c mode past bits h =
    middle-pushed mode g.row.DEPTH c.self.inside.reader c.push_some.new.self c.self.inside.taken past
    (past ++ heard_of c.push_some.result c.args.samples.now) bits (c.push_some.ensures.stands mode at_any past)
    (subst (λ (m : Middle). MiddleRead mode g.row.DEPTH m past bits) (sym c.self.view_is) h)
