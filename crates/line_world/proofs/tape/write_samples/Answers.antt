use Rattle.line_world.proofs.Cited.{◌≡◌, ◌++◌, ◌+◌, ◌∙◌, ℕ, Bool, List, length, take, sym, ap, subst, arith, length-append, append-nil}
use Rattle.line_world.proofs.Cited.{take_all, line_bits, low_bits, RecordsBits}
use Rattle.line_world.proofs.Taping.{records-more, quads-more}
use Rattle.line_world.proofs.tape.write_samples.Goals as goal

pub loop-place-preserved : goal.loop-place-preserved
loop-place-preserved c = record {
  room =
      let four : length c.octets_of.result ≡ 4 = ap length c.octets_of.ensures in
      ap length c.extend.ensures ∙ omega (arith, four, c.loop-place.invariant.room, length-append c.loop-place.out c.octets_of.result);
  stands = λ mode bits octets r.
      let before = c.loop-place.invariant.stands mode bits octets r in
      let more : List Bool = low_bits 4 c.quad.result in
      let at-bits = quads-more c.args.slot.now c.loop-place.place c.quad.result bits
      (omega (arith, c.loop-place-test.true, c.len-place-end.ensures.count)) c.quad.ensures.value in
      let pushed = records-more mode c.loop-place.modulator c.push-sample.new.self
      (bits ++ line_bits (take c.loop-place.place c.args.slot.now))
      more octets c.loop-place.out c.octets_of.result c.push-sample.result before
      (c.push-sample.ensures mode _ before.samples before.stands) c.octets_of.ensures in
      subst (λ (o : List ℕ). RecordsBits mode c.push-sample.new.self (bits ++ line_bits (take (c.loop-place.place + 1) c.args.slot.now))
      (octets ++ o)) (sym c.extend.ensures)
      (subst (λ (b : List Bool). RecordsBits mode c.push-sample.new.self b (octets ++ (c.loop-place.out ++ c.octets_of.result))) at-bits
      pushed);
}

pub loop-place-init : goal.loop-place-init
loop-place-init c = record {
  room = ap length c.requires;
  stands = λ mode bits octets r. subst (λ (b : List Bool). RecordsBits mode c.args.modulator.now b (octets ++ c.args.out.now))
      (sym (append-nil bits)) (subst (λ (o : List ℕ). RecordsBits mode c.args.modulator.now bits o)
      (sym (append-nil octets) ∙ ap (λ o. octets ++ o) (sym c.requires)) r);
}

pub quad-requires : goal.quad-requires
quad-requires c = omega (arith, c.loop-place-test.true, c.len-place-end.ensures.count)

pub extend-requires : goal.extend-requires
extend-requires c = let four : length c.octets_of.result ≡ 4 = ap length c.octets_of.ensures in
    omega (arith, four, c.loop-place.invariant.room, c.loop-place-test.true, c.len-place-end.ensures.count, c.len-place-end.ensures.bound)

pub returns : goal.returns
returns c = λ mode bits octets r.
    subst (λ (s : List ℕ). RecordsBits mode c.loop-place.modulator (bits ++ line_bits s) (octets ++ c.loop-place.out))
    (take_all c.loop-place.place c.args.slot.now (omega (arith, c.loop-place-test.false, c.len-place-end.ensures.count)))
    (c.loop-place.invariant.stands mode bits octets r)
