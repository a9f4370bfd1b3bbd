use Rattle.detection.proofs.Names.{◌≡◌, ◌+◌, ◌-◌, ◌*◌, [], ◌∷◌, ◌++◌, length, arith, append_assoc, length-append, ◌∙◌, ap, line_bits, ones}
use Rattle.detection.proofs.Written.{line_bits-append, ones-append}
use Rattle.detection.proofs.slots.fill_with_ones.Goals as goal

pub loop-preserved : goal.loop-preserved
loop-preserved c =
    let start = line_bits c.args.out.now in
    let count = c.loop.counter - length c.args.out.now in
    let next : 4 * count + 4 ≡ 4 * (c.loop.counter + 1 - length c.args.out.now) =
    omega (arith, c.loop.auto.counter, c.len-counter.ensures.count) in
    record {
      count = omega (arith, ap length c.push.ensures, length-append c.loop.out (15 ∷ []), c.loop.invariant.count);
      bits = ap line_bits c.push.ensures ∙ line_bits-append c.loop.out (15 ∷ []) ∙ ap (λ l. l ++ ones 4) c.loop.invariant.bits
          ∙ append_assoc start (ones (4 * count)) (ones 4)
          ∙ ap (λ l. start ++ l) (ones-append (4 * count) 4 ∙ ap ones next);
    }
