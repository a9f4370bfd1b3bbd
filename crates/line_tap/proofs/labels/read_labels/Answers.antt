use Rattle.line_tap.proofs.Cited.{◌∙◌, ◌+◌, ◌*◌, ◌≤◌, ◌++◌, ◌∷◌, [], ℕ, List, take, length, sym, ap, subst, arith, length-append, take_all}
use Rattle.line_tap.proofs.Cited.{ReadsLabels, samples_in, sample_at}
use Rattle.line_tap.proofs.PointLabels.{reads-more, count-samples, one-more, no-sequence}
use Rattle.line_tap.proofs.labels.read_labels.Goals as goal

pub returns-in-None-clause-none : goal.returns-in-None-clause-none
returns-in-None-clause-none c =
    let octets : List ℕ = c.args.octets.now in
    let n : ℕ = c.loop-place.place in
    no-sequence c.points_differ.ensures n c.args.from c.loop-place.state octets c.loop-place.labels
    (omega (arith, c.requires.size, c.loop-place-test.true, c.from-place-end.ensures)) c.loop-place.invariant.reads.are
    c.loop-place.invariant.reads.leads (λ label to low same next. c.in-None.ensures.none label to low (same ∙ sym c.sample_at.ensures) next)

pub loop-place-preserved : goal.loop-place-preserved
loop-place-preserved c =
    let octets : List ℕ = c.args.octets.now in
    let n : ℕ = c.loop-place.place in
    let within : 4 * n + 4 ≤ length octets = omega (arith, c.requires.size, c.loop-place-test.true, c.from-place-end.ensures) in
    let old = c.args.demodulator.now in
    let new = c.push.new.self in
    let from : ℕ = c.args.from in
    let to : ℕ = c.in-Some.step.to in
    let label : ℕ = c.in-Some.step.label in
    let quads : List ℕ = c.loop-place.bits ++ c.push.result ∷ [] in
    record {
      reads = subst (λ xs. ReadsLabels old new from to xs c.push-in-Some.new.self c.push-in-Some-2.new.self)
          (sym (one-more n octets within))
          (subst (λ q. ReadsLabels old new from to (take n (samples_in octets) ++ sample_at octets n ∷ []) q c.push-in-Some-2.new.self)
          (sym c.push-in-Some.ensures)
          (subst (λ ls. ReadsLabels old new from to (take n (samples_in octets) ++ sample_at octets n ∷ []) quads ls)
          (sym c.push-in-Some-2.ensures)
          (reads-more old c.loop-place.demodulator new from c.loop-place.state to (take n (samples_in octets)) c.loop-place.bits
          c.loop-place.labels (sample_at octets n) label c.push.result c.in-Some.ensures.small
          (c.in-Some.ensures.point ∙ c.sample_at.ensures) c.in-Some.ensures.leads c.push.ensures.stands c.loop-place.invariant.reads)));
      within = c.in-Some.ensures.within;
      count = ap length c.push-in-Some.ensures ∙ length-append c.loop-place.bits (c.push.result ∷ [])
          ∙ ap (λ m. m + 1) c.loop-place.invariant.count;
      counted = ap length c.push-in-Some-2.ensures ∙ length-append c.loop-place.labels (label ∷ [])
          ∙ ap (λ m. m + 1) c.loop-place.invariant.counted;
    }

pub returns-clause-some : goal.returns-clause-some
returns-clause-some c =
    let count = count-samples c.args.symbols c.args.octets.now c.requires.size in
    let end = c.loop-place in
    subst (λ xs. ReadsLabels c.args.demodulator.now end.demodulator c.args.from end.state xs end.bits end.labels)
    (take_all c.loop-place.place (samples_in c.args.octets.now) (omega (arith, count, c.loop-place-test.false, c.from-place-end.ensures)))
    c.loop-place.invariant.reads
