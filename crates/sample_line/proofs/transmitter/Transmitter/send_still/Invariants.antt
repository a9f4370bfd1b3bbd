use Rattle.sample_line.proofs.Names.{◌≡◌, length, map, take, point_of}
use Rattle.sample_line.proofs.transmitter.Transmitter.send_still.Given as goal

abbrev pub invariant-loop-place : goal.invariant-loop-place
invariant-loop-place l = record {
  long : length l.samples ≡ 128;
  points : take l.place l.samples ≡ map point_of (take l.place l.labels);
}
