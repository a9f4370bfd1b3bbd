use Rattle.sample_line.proofs.Names.{◌≡◌, ◌∙◌, ◌<◌, ◌++◌, ◌∷◌, [], ℕ, List, length, map, take, refl, ap, subst, arith, length-set}
use Rattle.sample_line.proofs.Names.{take_more_set, point_of, Sample}
use Rattle.sample_line.proofs.Standing.{points-part}
use Rattle.sample_line.proofs.transmitter.Transmitter.send_still.Goals as goal

pub loop-place-preserved : goal.loop-place-preserved
loop-place-preserved c =
    let i = c.loop-place.invariant in
    let place : ℕ = c.loop-place.place in
    let labels : List ℕ = c.args.labels.now in
    let samples : List Sample = c.loop-place.samples in
    let within : place < length labels = omega (arith, c.told-labels, c.loop-place-test.true, c.requires.few) in
    let room : place < length samples = omega (arith, i.long, c.loop-place-test.true, c.requires.few) in
    record {
      long = length-set samples place c.point.result ∙ i.long;
      points = take_more_set samples place c.point.result room
          ∙ ap (λ (xs : List Sample). xs ++ c.point.result ∷ []) i.points
          ∙ ap (λ (x : Sample). map point_of (take place labels) ++ x ∷ []) c.point.ensures
          ∙ points-part [] labels place _ within refl;
    }

pub returns-clause-points : goal.returns-clause-points
returns-clause-points c =
    let all : c.loop-place.place ≡ c.args.count = omega (arith, c.loop-place-test.false, c.loop-place.auto.place-end) in
    subst (λ n. take n c.loop-place.samples ≡ map point_of (take n c.args.labels.now)) all c.loop-place.invariant.points
