use Rattle.signal_commands.proofs.Names.{◌≡◌, ℕ, ◌+◌, ◌*◌, List, ◌++◌, take, MarginStands, samples_in, Mode, Sample}
use Rattle.signal_commands.proofs.margin.measuring.measure_piece.Given as goal

abbrev pub invariant-loop-place : goal.invariant-loop-place
invariant-loop-place l = record {
  stands : (mode : Mode) (before : List ℕ) (samples : List Sample) → MarginStands mode l.fn.margin before samples
      → MarginStands mode l.margin (before ++ take l.place l.octets) (samples ++ samples_in (take (4 * (2 * l.place)) l.recorded));
  count : l.margin.count ≡ l.fn.margin.count + l.place;
}
