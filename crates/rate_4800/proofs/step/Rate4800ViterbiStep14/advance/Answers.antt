use Rattle.rate_4800.proofs.Stepping.{advanced}
use Rattle.rate_4800.proofs.step.Rate4800ViterbiStep14.advance.Goals as goal

pub returns-then-sums-eq0 : goal.returns-then-sums-eq0
returns-then-sums-eq0 c =
    advanced c.args.sample c.args.sums.now c.nearest_label.result c.requires.sums c.if-sums-eq0.true c.nearest_label.ensures
