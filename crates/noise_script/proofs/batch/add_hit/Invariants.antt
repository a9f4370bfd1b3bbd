use Rattle.noise_script.proofs.Names.{◌+◌, hit_offset}
use Rattle.noise_script.proofs.Batched.{GrowUpTo}
use Rattle.noise_script.proofs.batch.add_hit.Given as goal

abbrev pub invariant-loop-place : goal.invariant-loop-place
invariant-loop-place l = GrowUpTo (λ place. hit_offset l.fn.sender (l.start + place) l.fn.hit) l.place l.fn.sums l.sums
