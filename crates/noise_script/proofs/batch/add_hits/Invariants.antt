use Rattle.noise_script.proofs.Names.{◌+◌, ◌*◌, take, map, Grow, AreWithin, sum_of, hit_offset}
use Rattle.noise_script.proofs.batch.add_hits.Given as goal

abbrev pub invariant-loop-hit : goal.invariant-loop-hit
invariant-loop-hit l = record {
  grow : Grow (λ place. sum_of (map (hit_offset l.sender (l.start + place)) (take l.hit-index l.hits))) l.fn.sums l.sums;
  small : AreWithin (32768 * l.hit-index) l.sums;
}
