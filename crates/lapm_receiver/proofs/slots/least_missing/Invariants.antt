use Rattle.lapm_receiver.proofs.Rows.{Scans}
use Rattle.lapm_receiver.proofs.slots.least_missing.Given as goal

abbrev pub invariant-loop-place : goal.invariant-loop-place
invariant-loop-place l = Scans l.low l.first l.start l.ring.items l.later l.missing l.place
