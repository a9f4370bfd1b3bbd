use Rattle.gateway.proofs.Names.{◌≡◌, ◌+◌, ◌++◌, length, take, samples_in}
use Rattle.gateway.proofs.parts.copy_samples.Given as goal

abbrev pub invariant-loop-place : goal.invariant-loop-place
invariant-loop-place l = record {
  long : length l.samples ≡ 128;
  copied : samples_in l.at l.parts ++ take l.place l.samples ≡ samples_in (l.at + l.place) l.parts;
}
