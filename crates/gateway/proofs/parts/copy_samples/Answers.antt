use Rattle.gateway.proofs.Names.{◌≡◌, ◌∙◌, ◌∷◌, ◌+◌, ◌*◌, ◌-◌, ◌<◌, ◌++◌, [], ℕ, ℤ, pos, List, length, take, ap, arith, append_assoc}
use Rattle.gateway.proofs.Names.{length-set, get_or, samples_in, Sample}
use Rattle.std.proofs.Math.Nat.{min-le_right}
use Rattle.std.proofs.lemmas.List.{take_more_set}
use Rattle.gateway.proofs.parts.copy_samples.Goals as goal

-- one sample more
one-copied : (parts : List ℤ) (at place : ℕ) (copied : List Sample) (s : Sample)
    → samples_in at parts ++ copied ≡ samples_in (at + place) parts
    → s.re ≡ get_or parts (2 * (at + place)) (pos 0) → s.im ≡ get_or parts (2 * (at + place) + 1) (pos 0)
    → samples_in at parts ++ (copied ++ s ∷ []) ≡ samples_in (at + (place + 1)) parts
one-copied parts at place copied s so_far re im = grind (arith, append_assoc)

pub loop-place-preserved : goal.loop-place-preserved
loop-place-preserved c =
    let few = min-le_right (c.args.end - c.args.at) 128 in
    let room : c.loop-place.place < length c.loop-place.samples =
    omega (arith, c.loop-place-test.true, c.min-count.ensures, few, c.loop-place.invariant.long) in
    record {
      long = length-set c.loop-place.samples c.loop-place.place c.sample_at.result ∙ c.loop-place.invariant.long;
      copied = ap (λ l. samples_in c.args.at c.args.parts.now ++ l)
          (take_more_set c.loop-place.samples c.loop-place.place c.sample_at.result room)
          ∙ one-copied c.args.parts.now c.args.at c.loop-place.place (take c.loop-place.place c.loop-place.samples) c.sample_at.result
          c.loop-place.invariant.copied c.sample_at.ensures.re c.sample_at.ensures.im;
    }
