use Rattle.line_coding.proofs.Names.{[], ◌∷◌, ◌++◌, sym, subst, at_any, Middle, MiddleRead}
use Rattle.line_coding.proofs.Taking.{middle-pushed}
use Rattle.line_coding.proofs.middle_reader.MiddleReader.push.Goals as goal

pub returns-clause-stands : goal.returns-clause-stands
returns-clause-stands g c mode samples bits h =
    middle-pushed mode g.row.DEPTH c.self.inside.reader c.push.new.self c.self.inside.taken samples (samples ++ c.args.sample ∷ []) bits
    (c.push.ensures.stands mode at_any samples)
    (subst (λ (m : Middle). MiddleRead mode g.row.DEPTH m samples bits) (sym c.self.view_is) h)
