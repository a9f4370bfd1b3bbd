use Rattle.std.proofs.Common.{◌≡◌, ◌≤◌, [], length}
use Rattle.signal_tests.proofs.survivor_lists.is_batched.Given as goal

abbrev pub invariant-loop : goal.invariant-loop
invariant-loop l = (l.decoder.count ≤ l.at) × (l.decoder.pending ≡ []) × (l.at ≤ length l.samples)
