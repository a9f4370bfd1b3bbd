use Rattle.line_tap.proofs.PointLabels.{SumsUp}
use Rattle.line_tap.proofs.labels.number_of.Given as goal

abbrev pub invariant-loop-label : goal.invariant-loop-label
invariant-loop-label l = SumsUp l.label l.number l.sample
