use Rattle.exact_decoder.specs.Traced.{choices_of}
use Rattle.exact_decoder.proofs.Walking.{WentBack}
use Rattle.exact_decoder.proofs.step.go_back_plainly.Given as goal

abbrev pub invariant-loop-place : goal.invariant-loop-place
invariant-loop-place g l = WentBack g.row.STATES (choices_of l.column) l.fn.live l.live l.first l.place l.same
