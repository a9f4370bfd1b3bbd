use Rattle.std.proofs.Common.{◌≡◌, ◌≤◌, []}
use Rattle.signal_tests.proofs.survivor_lists.hear_alike.Given as goal

abbrev pub invariant-loop-symbol : goal.invariant-loop-symbol
invariant-loop-symbol l = (l.decoder.count ≤ l.symbol) × (l.decoder.pending ≡ [])
