use Rattle.noise_script.proofs.Names.{◌≡◌, ◌+◌, ◌-◌, noise_offset}
use Rattle.noise_script.proofs.Batched.{GrowUpTo}
use Rattle.noise_script.proofs.batch.add_noise.Given as goal

abbrev pub invariant-loop-place : goal.invariant-loop-place
invariant-loop-place l = record {
  grow : GrowUpTo (λ place. noise_offset l.fn.sender (l.start + place) l.fn.noise) l.place l.fn.sums l.sums;
  seed : l.own.seed ≡ l.fn.noise.seed;
  sender : l.own.sender ≡ l.fn.sender;
  place : l.own.place ≡ l.start + l.place - l.fn.noise.from;
}
