use Rattle.sample_line.proofs.Names.{◌≡◌, ◌∙◌, ◌<◌, ◌++◌, ◌∷◌, [], ℕ, List, length, map, take, refl, sym, ap, subst, arith, length-set}
use Rattle.sample_line.proofs.Names.{length-take-le, take_more_set, displaced, displaced_from, point_of, Sample}
use Rattle.sample_line.proofs.Sending.{sent, displaced-more}
use Rattle.sample_line.proofs.transmitter.Transmitter.send_each.Goals as goal

pub loop-place-init : goal.loop-place-init
loop-place-init c = record { long = c.told-samples; displaced = refl }

pub loop-place-preserved : goal.loop-place-preserved
loop-place-preserved c =
    let i = c.loop-place.invariant in
    let place : ℕ = c.loop-place.place in
    let labels : List ℕ = c.args.labels.now in
    let samples : List Sample = c.loop-place.samples in
    let within : place < length labels = omega (arith, c.told-labels, c.loop-place-test.true, c.requires.few) in
    let room : place < length samples = omega (arith, i.long, c.loop-place-test.true, c.requires.few) in
    record {
      long = length-set samples place c.displaced.result ∙ i.long;
      displaced = take_more_set samples place c.displaced.result room
          ∙ ap (λ (xs : List Sample). xs ++ c.displaced.result ∷ []) i.displaced
          ∙ displaced-more c.args.script.now c.args.self.now.sender c.args.self.now.symbol labels place _ _ c.displaced.result within refl
          (c.offsets.ensures.value place (subst (λ n. place < n) (sym (length-take-le c.args.count _ c.requires.few))
          c.loop-place-test.true)) (c.displaced.ensures ∙ ap (displaced _) c.point.ensures);
    }

pub displaced-requires : goal.displaced-requires
displaced-requires c = c.offsets.ensures.small.each c.loop-place.place
    (subst (λ n. c.loop-place.place < n) (sym (c.offsets.auto.sums ∙ length-take-le c.args.count _ c.requires.few)) c.loop-place-test.true)

pub returns-clause-stands : goal.returns-clause-stands
returns-clause-stands c = λ points past h.
    let all : c.loop-place.place ≡ c.args.count = omega (arith, c.loop-place-test.false, c.loop-place.auto.place-end) in
    sent c.args.self.now _ c.args.script.now points past (take c.args.count c.loop-place.samples) c.args.labels.now c.args.count
    (omega (arith, c.told-labels, c.requires.few)) refl refl
    (subst (λ n. take n c.loop-place.samples
    ≡ displaced_from c.args.script.now c.args.self.now.sender c.args.self.now.symbol (map point_of (take n c.args.labels.now)))
    all c.loop-place.invariant.displaced) h
