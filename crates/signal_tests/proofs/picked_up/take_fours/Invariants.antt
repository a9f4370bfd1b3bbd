use Rattle.std.proofs.Common.{◌≡◌}
use Rattle.signal_tests.proofs.picked_up.take_fours.Given as goal

abbrev pub invariant-loop : goal.invariant-loop
invariant-loop l = l.reader.reading.decoder.count ≡ l.fn.reader.reading.decoder.count
