use Rattle.exact_decoder.proofs.Names.{◌≡◌, ◌+◌, length, length-append, arith, length-reverse}
use Rattle.exact_decoder.proofs.labels.reversed.Goals as goal

pub push-requires : goal.push-requires
push-requires c =
    let turned = c.loop-label.turned in
    let labels = c.loop-label.labels in
    let whole : length turned + length labels ≡ length c.args.labels = grind (arith, length-append, length-reverse) in
    let some : length labels ≡ length c.pop.new.self + 1 = grind (arith, length-append) in
    omega (arith, whole, some, c.requires)
