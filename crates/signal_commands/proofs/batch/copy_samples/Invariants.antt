use Rattle.signal_commands.proofs.Names.{◌≡◌, ◌+◌, ◌*◌, ◌++◌, length, take, samples_in}
use Rattle.signal_commands.proofs.batch.copy_samples.Given as goal

abbrev pub invariant-loop-place : goal.invariant-loop-place
invariant-loop-place l = record {
  long : length l.samples ≡ 128;
  copied : samples_in (take (4 * l.at) l.piece) ++ take l.place l.samples ≡ samples_in (take (4 * (l.at + l.place)) l.piece);
}
