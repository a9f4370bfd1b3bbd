use Rattle.std.proofs.Common.{◌≡◌, ◌≤◌, []}
use Rattle.signal_tests.proofs.picked_up.reads_quads.Given as goal

abbrev pub invariant-loop-symbol : goal.invariant-loop-symbol
invariant-loop-symbol l = (l.reader.decoder.count ≤ l.symbol) × (l.reader.decoder.pending ≡ [])
