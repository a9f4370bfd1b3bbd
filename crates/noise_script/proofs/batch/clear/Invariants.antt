use Rattle.noise_script.proofs.Names.{◌≡◌, ℕ, ◌<◌, length, at_place, nothing}
use Rattle.noise_script.proofs.batch.clear.Given as goal

abbrev pub invariant-loop-place : goal.invariant-loop-place
invariant-loop-place l = record {
  long : length l.sums ≡ length l.fn.sums;
  each : (place : ℕ) → place < l.place → at_place l.sums place ≡ nothing;
}
