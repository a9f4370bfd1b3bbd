use Rattle.std.proofs.Common.{◌≡◌, ℕ, ◌<◌, length, slice_index}
use Rattle.exact_decoder.proofs.room.no_sums.Given as goal

abbrev pub invariant-loop-state : goal.invariant-loop-state
invariant-loop-state l = (length l.sums.items ≡ l.count) × ((s : ℕ) → s < l.state → slice_index l.sums.items s ≡ s)
