use Rattle.trace_audit.proofs.Cited.{arith, audited}
use Rattle.trace_audit.proofs.comparing.compare_line.Goals as goal

pub returns-in-Ok-clause-compared : goal.returns-in-Ok-clause-compared
returns-in-Ok-clause-compared g c = λ lines told h.
    c.compare.ensures.compared (audited (g.F.Folder.state c.args.folder.now) c.args.trace.now) lines h (c.in-Ok.ensures.window told)

pub compare-requires-clause-few : goal.compare-requires-clause-few
compare-requires-clause-few g c = (c.requires.few.0, omega (arith, c.requires.few.1), c.requires.few.2)
