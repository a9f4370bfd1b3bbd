use Rattle.noise_script.proofs.Cuts.{line-cut-at, line-whole}
use Rattle.noise_script.proofs.lines.next_line.Goals as goal

pub returns-then-octet-eq10-clause-lines : goal.returns-then-octet-eq10-clause-lines
returns-then-octet-eq10-clause-lines c =
    line-cut-at c.args.text.now c.loop-at.at _ c.loop-at-test.true c.loop-at.invariant c.if-octet-eq10.true c.without_return.ensures

pub returns-clause-lines : goal.returns-clause-lines
returns-clause-lines c = line-whole c.args.text.now c.loop-at.at c.requires c.loop-at-test.false c.loop-at.invariant
