use Rattle.std.proofs.Common.{◌≡◌, ℕ, ◌<◌, slice_index}
use Rattle.exact_decoder.proofs.step.have_met_plainly.Given as goal

abbrev pub invariant-loop-place : goal.invariant-loop-place
invariant-loop-place g l = (s : ℕ) → s < l.place → slice_index l.live s ≡ slice_index l.live 0
