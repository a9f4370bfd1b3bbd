use Rattle.std.proofs.Common.{◌≡◌}
use Rattle.signal_tests.proofs.survivor_lists.take_all.Given as goal

abbrev pub invariant-loop : goal.invariant-loop
invariant-loop l = l.decoder.count ≡ l.fn.decoder.count
