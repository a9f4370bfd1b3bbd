use Rattle.std.proofs.Common.{◌≡◌, length}
use Rattle.world_tests.proofs.lines.forged.labels_of.Given as goal

abbrev pub invariant-loop-place : goal.invariant-loop-place
invariant-loop-place l = length l.labels ≡ l.place
