use Rattle.std.proofs.Common.{◌≡◌, ◌≤◌, []}
use Rattle.signal_tests.proofs.picked_up.reads_from_the_middle.Given as goal

abbrev pub invariant-loop-symbol : goal.invariant-loop-symbol
invariant-loop-symbol l = (l.reader.reading.decoder.count ≤ l.symbol) × (l.reader.reading.decoder.pending ≡ [])
