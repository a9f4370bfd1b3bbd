use Rattle.std.proofs.Common.{◌≡◌, ◌≤◌, [], None}
use Rattle.signal_tests.proofs.decoding.reads_row.Given as goal

abbrev pub invariant-loop-place : goal.invariant-loop-place
invariant-loop-place l = (l.decoder.count ≤ l.place) × (l.decoder.pending ≡ []) × (l.decoder.lost ≡ None)
