use Rattle.std.proofs.Common.{◌≤◌}
use Rattle.link_tests.proofs.sending.segments_sent_and_acknowledged.Given as goal

abbrev pub invariant-loop-step : goal.invariant-loop-step
invariant-loop-step g l = 1 ≤ l.sender.window
