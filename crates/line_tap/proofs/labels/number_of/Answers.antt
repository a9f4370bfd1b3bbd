use Rattle.line_tap.proofs.Cited.{arith}
use Rattle.line_tap.proofs.PointLabels.{sums-none, sums-more}
use Rattle.line_tap.proofs.labels.number_of.Goals as goal

pub loop-label-init : goal.loop-label-init
loop-label-init c = sums-none c.args.sample

pub loop-label-preserved : goal.loop-label-preserved
loop-label-preserved c =
    sums-more c.points_differ.ensures c.loop-label.label c.loop-label.number c.share_of-number.result c.args.sample c.loop-label-test.true
    c.loop-label.invariant c.share_of-number.ensures.point c.share_of-number.ensures.none

pub returns-clause-only : goal.returns-clause-only
returns-clause-only c = λ label low e. c.loop-label.invariant.only label (omega (arith, low, c.loop-label-test.false)) e
