use Rattle.gateway.proofs.Names.{ℕ, ◌≡◌, ◌*◌, ◌++◌, subst, arith, heard, samples_in}
use Rattle.gateway.proofs.Measuring.{Measures, two-samples, measures-more}
use Rattle.gateway.proofs.meter.LockMeter.push.Goals as goal

pub loop-place-preserved : goal.loop-place-preserved
loop-place-preserved c = record {
  counted = omega (arith, c.push.ensures.count, c.loop-place.invariant.counted);
  measures = λ mode past samples start.
      let bits = c.args.bits.now in let parts = c.args.parts.now in let place = c.loop-place.place in
      let first = c.sample_at-first.result in let second = c.sample_at-second.result in
      let here = c.loop-place.invariant.measures mode past samples start in
      measures-more mode c.push.new.self past samples here.octets bits parts place c.octet_at.result first second here.bits_are
      c.octet_at.ensures
      (two-samples parts place first second c.sample_at-first.ensures.re c.sample_at-first.ensures.im c.sample_at-second.ensures.re
      c.sample_at-second.ensures.im)
      (c.push.ensures.stands mode here.octets (samples ++ samples_in (2 * place) parts) here.measured);
}

pub returns-clause-measures : goal.returns-clause-measures
returns-clause-measures c = λ mode past samples start.
    let bits = c.args.bits.now in let parts = c.args.parts.now in
    let all : c.loop-place.place ≡ c.min-count.result = omega (arith, c.loop-place-test.false) in
    let here = subst (λ (n : ℕ). Measures mode c.loop-place.margin (past ++ heard (8 * n) bits) (samples ++ samples_in (2 * n) parts)) all
    (c.loop-place.invariant.measures mode past samples
    (record { octets = start.octets; bits_are = start.bits_are; measured = start.measured })) in
    record { octets = here.octets; bits_are = here.bits_are; measured = here.measured }
