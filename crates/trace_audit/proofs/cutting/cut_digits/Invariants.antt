use Rattle.trace_audit.proofs.Cited.{◌≡◌, true, take, list_all, is_digit}
use Rattle.trace_audit.proofs.cutting.cut_digits.Given as goal

abbrev pub invariant-loop-at : goal.invariant-loop-at
invariant-loop-at l = list_all is_digit (take l.at l.text) ≡ true
