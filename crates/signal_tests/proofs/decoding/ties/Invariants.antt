use Rattle.std.proofs.Common.{◌≡◌, ◌≤◌, [], None}
use Rattle.signal_tests.proofs.decoding.ties.Given as goal

abbrev pub invariant-loop-symbol : goal.invariant-loop-symbol
invariant-loop-symbol l = (l.decoder.count ≤ l.symbol) × (l.decoder.pending ≡ []) × (l.decoder.lost ≡ None)
