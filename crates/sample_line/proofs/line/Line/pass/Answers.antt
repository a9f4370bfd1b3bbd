use Rattle.sample_line.proofs.Names.{subst, Sent, Passes}
use Rattle.sample_line.proofs.line.Line.pass.Goals as goal

pub returns-clause-passes : goal.returns-clause-passes
returns-clause-passes c = λ passed signal h coded.
    subst (λ (s : Sent). Passes c.hear.new.self c.args.script.now passed signal c.args.check c.args.dlci c.args.loses s c.hear.result)
    c.copy_of.ensures (c.hear.ensures.passes passed signal h coded)
