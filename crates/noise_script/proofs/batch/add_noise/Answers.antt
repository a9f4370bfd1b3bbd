use Rattle.noise_script.proofs.Names.{◌≡◌, ◌∙◌, ◌+◌, ◌-◌, ℕ, true, false, arith, rules, drawn_offset}
use Rattle.noise_script.proofs.Names.{word_at, stream_of, Noise, Offset, same_role}
use Rattle.noise_script.proofs.Batched.{apart, begins, goes-on, ends, within-at, noise-small, same-drawn}
use Rattle.noise_script.proofs.batch.add_noise.Goals as goal

abbrev drawn_at : Noise → ℕ → ℕ → Offset
drawn_at noise start place = drawn_offset noise.amplitude (word_at noise.seed (stream_of noise.role) (start + place - noise.from))

pub returns-then-ne : goal.returns-then-ne
returns-then-ne c =
    let noise = c.args.noise.now in
    let own : same_role noise.role c.args.sender ≡ false = search rules in
    record {
      grow = apart _ _ _ _ (drawn_at noise c.args.start) _ own;
      small = noise-small noise c.args.sender c.requires.quiet;
    }

pub returns-then-end-begin : goal.returns-then-end-begin
returns-then-end-begin c =
    let noise = c.args.noise.now in
    let same = same_role noise.role c.args.sender in
    let drawn = drawn_at noise c.args.start in
    let none = begins same noise.from noise.count c.args.start drawn _ _ c.begin_of-begin.ensures in
    record {
      grow = ends same noise.from noise.count c.args.start drawn _ _ _ _ c.end_of-end.ensures c.if-end-begin.true none;
      small = noise-small noise c.args.sender c.requires.quiet;
    }

pub loop-place-init : goal.loop-place-init
loop-place-init c =
    let noise = c.args.noise.now in
    record {
      grow = begins (same_role noise.role c.args.sender) noise.from noise.count c.args.start (drawn_at noise c.args.start) c.args.sums.now
          c.begin_of-begin.result c.begin_of-begin.ensures;
      seed = c.bring_to.ensures.seed;
      sender = c.bring_to.ensures.sender;
      place = omega (arith, c.bring_to.ensures.place, c.begin_of-begin.ensures, c.if-end-begin.false);
    }

pub loop-place-preserved : goal.loop-place-preserved
loop-place-preserved c =
    let noise = c.args.noise.now in
    let i = c.loop-place.invariant in
    let own : same_role noise.role c.args.sender ≡ true = search rules in
    record {
      grow = goes-on (same_role noise.role c.args.sender) noise.from noise.count c.args.start (drawn_at noise c.args.start) c.args.sums.now
          c.begin_of-begin.result c.end_of-end.result c.loop-place.place c.loop-place.sums c.plus.result c.drawn_offset.result
          c.begin_of-begin.ensures c.end_of-end.ensures own c.loop-place.auto.place c.loop-place-test.true i.grow
          (same-drawn noise _ _ _ _ _ _ _ own i.seed i.sender i.place c.next_word-word.ensures.word c.drawn_offset.ensures.value)
          c.plus.ensures;
      seed = c.next_word-word.ensures.seed ∙ i.seed;
      sender = c.next_word-word.ensures.sender ∙ i.sender;
      place = omega (arith, c.next_word-word.ensures.place, i.place, c.begin_of-begin.ensures, c.loop-place.auto.place);
    }

pub plus-requires-clause-a : goal.plus-requires-clause-a
plus-requires-clause-a c =
    within-at 1073741823 _ _ _ _ c.requires.far c.loop-place.invariant.grow (omega (arith, c.loop-place-test.true, c.end_of-end.ensures))

pub next_word-word-requires : goal.next_word-word-requires
next_word-word-requires c = omega (arith, c.loop-place.invariant.place, c.loop-place-test.true, c.end_of-end.ensures)

pub returns-clause-grow : goal.returns-clause-grow
returns-clause-grow c =
    let noise = c.args.noise.now in
    ends (same_role noise.role c.args.sender) noise.from noise.count c.args.start (drawn_at noise c.args.start) c.args.sums.now
    c.end_of-end.result c.loop-place.place c.loop-place.sums c.end_of-end.ensures c.loop-place-test.false c.loop-place.invariant.grow

pub returns-clause-small : goal.returns-clause-small
returns-clause-small c = noise-small c.args.noise.now c.args.sender c.requires.quiet
