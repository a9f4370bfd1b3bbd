use Rattle.std.proofs.Common.{◌≡◌, ℕ, ◌<◌, length, slice_index}
use Rattle.exact_decoder.proofs.back.all_states.Given as goal

abbrev pub invariant-loop-state : goal.invariant-loop-state
invariant-loop-state g l = (length l.states ≡ g.row.STATES) × ((s : ℕ) → s < l.state → slice_index l.states s ≡ s)
