use Rattle.noise_script.proofs.Names.{◌+◌, ◌*◌, take, map, Grow, AreWithin, sum_of, noise_offset}
use Rattle.noise_script.proofs.batch.add_noises.Given as goal

abbrev pub invariant-loop-line : goal.invariant-loop-line
invariant-loop-line l = record {
  grow : Grow (λ place. sum_of (map (noise_offset l.sender (l.start + place)) (take l.line l.noises))) l.fn.sums l.sums;
  small : AreWithin (33554432 + 32767 * l.line) l.sums;
}
