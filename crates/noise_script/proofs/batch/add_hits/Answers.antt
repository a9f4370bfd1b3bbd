use Rattle.noise_script.proofs.Names.{◌+◌, ℕ, arith, hit_offset, Hit, Offset}
use Rattle.noise_script.proofs.Sums.{no_hit}
use Rattle.noise_script.proofs.Batched.{no-line, line-more, far-more, farther}
use Rattle.noise_script.proofs.batch.add_hits.Goals as goal

pub loop-hit-init : goal.loop-hit-init
loop-hit-init c =
    let by : ℕ → Hit → Offset = λ place. hit_offset c.args.sender (c.args.start + place) in grind (arith, no-line)

pub loop-hit-preserved : goal.loop-hit-preserved
loop-hit-preserved c =
    let by : ℕ → Hit → Offset = λ place. hit_offset c.args.sender (c.args.start + place) in
    let i : ℕ = c.loop-hit.hit-index in
    record {
      grow = line-more by c.args.hits.now _ no_hit _ _ _ c.loop-hit-test.true c.loop-hit.invariant.grow c.add_hit.ensures.grow;
      small = far-more _ 32768 _ _ _ _ c.loop-hit.invariant.small
          c.add_hit.ensures.grow (λ place. c.add_hit.ensures.small (c.args.start + place)) (omega arith);
    }

pub add_hit-requires : goal.add_hit-requires
add_hit-requires c = farther _ 1073741823 _ (omega (arith, c.loop-hit-test.true, c.requires.few)) c.loop-hit.invariant.small
