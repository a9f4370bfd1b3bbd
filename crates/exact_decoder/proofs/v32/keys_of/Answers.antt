use Rattle.exact_decoder.proofs.Names.{arith, take_all}
use Rattle.exact_decoder.proofs.v32.keys_of.Goals as goal

pub overflow_cast-result : goal.overflow_cast-result
overflow_cast-result c =
    let sums = c.args.sums.now in
    let all = take_all 8 sums (omega (arith, c.requires.long)) in grind (arith)
