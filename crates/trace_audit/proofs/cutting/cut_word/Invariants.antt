use Rattle.trace_audit.proofs.Cited.{◌≡◌, true, take, list_all, is_no_space}
use Rattle.trace_audit.proofs.cutting.cut_word.Given as goal

abbrev pub invariant-loop-at : goal.invariant-loop-at
invariant-loop-at l = list_all is_no_space (take l.at l.text) ≡ true
