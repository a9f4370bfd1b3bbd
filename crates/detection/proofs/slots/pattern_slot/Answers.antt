use Rattle.detection.proofs.Names.{◌≡◌, ◌-◌, ◌*◌, ◌++◌, length, arith, sym, ◌∙◌, ap, subst, IsPlain, ones, pattern, patterns}
use Rattle.detection.proofs.Written.{patterns-snoc, pattern-plain}
use Rattle.detection.proofs.slots.pattern_slot.Goals as goal

pub loop-preserved : goal.loop-preserved
loop-preserved c = record {
  count = omega (arith, c.write_pattern.ensures.count, c.loop.invariant.count);
  bits = c.write_pattern.ensures.bits ∙ ap (λ l. l ++ pattern c.args.seen) c.loop.invariant.bits ∙ patterns-snoc c.loop.counter c.args.seen;
}

pub returns-clause-bits : goal.returns-clause-bits
returns-clause-bits c =
    let ten : c.loop.counter ≡ 10 = omega (arith, c.loop-test.false, c.loop.auto.counter-end) in
    let left : 4 * (c.args.symbols - length c.loop.out) ≡ 4 * c.args.symbols - 360 = omega (arith, c.loop.invariant.count, ten) in
    c.fill_with_ones.ensures
    ∙ ap (λ l. l ++ ones (4 * (c.args.symbols - length c.loop.out))) (c.loop.invariant.bits ∙ ap (λ n. patterns n c.args.seen) ten)
    ∙ ap (λ n. patterns 10 c.args.seen ++ ones n) left

pub returns-clause-plain : goal.returns-clause-plain
returns-clause-plain c =
    subst (IsPlain (4 * c.args.symbols)) (sym (returns-clause-bits c))
    (pattern-plain (4 * c.args.symbols) c.args.seen (omega (arith, c.requires.low)))
