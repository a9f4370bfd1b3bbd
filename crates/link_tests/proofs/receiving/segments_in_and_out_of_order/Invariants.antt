use Rattle.std.proofs.Common.{◌≤◌}
use Rattle.link_tests.proofs.receiving.segments_in_and_out_of_order.Given as goal

abbrev pub invariant-loop-step : goal.invariant-loop-step
invariant-loop-step g l = 1 ≤ l.receiver.window
