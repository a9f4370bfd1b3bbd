use Rattle.noise_script.proofs.Names.{◌+◌, ℕ, arith, noise_offset, Noise, Offset}
use Rattle.noise_script.proofs.Sums.{no_noise, quiet-at}
use Rattle.noise_script.proofs.Batched.{no-line, line-more, far-more, farther}
use Rattle.noise_script.proofs.batch.add_noises.Goals as goal

pub loop-line-init : goal.loop-line-init
loop-line-init c =
    let by : ℕ → Noise → Offset = λ place. noise_offset c.args.sender (c.args.start + place) in
    record { grow = no-line by c.args.noises.now c.args.sums.now; small = c.requires.hits }

pub loop-line-preserved : goal.loop-line-preserved
loop-line-preserved c =
    let by : ℕ → Noise → Offset = λ place. noise_offset c.args.sender (c.args.start + place) in
    let i : ℕ = c.loop-line.line in
    record {
      grow = line-more by c.args.noises.now _ no_noise _ _ _ c.loop-line-test.true c.loop-line.invariant.grow c.add_noise.ensures.grow;
      small = far-more _ 32767 _ _ _ _
          c.loop-line.invariant.small c.add_noise.ensures.grow (λ place. c.add_noise.ensures.small (c.args.start + place)) (omega arith);
    }

pub add_noise-requires-clause-quiet : goal.add_noise-requires-clause-quiet
add_noise-requires-clause-quiet c = quiet-at c.args.noises.now c.loop-line.line _ c.requires.quiet c.loop-line-test.true

pub add_noise-requires-clause-far : goal.add_noise-requires-clause-far
add_noise-requires-clause-far c = farther _ 1073741823 _ (omega (arith, c.loop-line-test.true, c.requires.few)) c.loop-line.invariant.small

pub returns-clause-small : goal.returns-clause-small
returns-clause-small c = farther _ 35651520 _ (omega (arith, c.loop-line.auto.line-end, c.requires.few)) c.loop-line.invariant.small
