use Rattle.sample_line.proofs.Names.{◌≡◌, length, map, take, displaced_from, point_of}
use Rattle.sample_line.proofs.transmitter.Transmitter.send_each.Given as goal

abbrev pub invariant-loop-place : goal.invariant-loop-place
invariant-loop-place l = record {
  long : length l.samples ≡ 128;
  displaced : take l.place l.samples
      ≡ displaced_from l.script l.fn.self.sender l.fn.self.symbol (map point_of (take l.place l.labels));
}
