use Rattle.std.proofs.Common.{◌≡◌}
use Rattle.signal_tests.proofs.picked_up.take_quads.Given as goal

abbrev pub invariant-loop : goal.invariant-loop
invariant-loop l = l.reader.decoder.count ≡ l.fn.reader.decoder.count
