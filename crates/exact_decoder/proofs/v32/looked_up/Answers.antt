use Rattle.std.proofs.Common.{◌≡◌, ◌+◌, ◌*◌, ◌/◌, ◌<◌, get_or, refl, arith, ap, ◌∙◌, w8}
use Rattle.std.proofs.lemmas.Simd.{SwzOk-from_below, get_or-swz_l_below, length-swz_l, Each1-get_or}
use Rattle.exact_decoder.proofs.v32.looked_up.Goals as goal

pub swizzle : goal.swizzle
swizzle c = SwzOk-from_below w8 16 1 16 0 c.args.places refl (omega (arith, c.requires.long)) c.requires.within

pub returns-clause-each : goal.returns-clause-each
returns-clause-each c i h =
    let p = get_or c.args.places i 0 in
    let e : 16 * ((0 + i) / 16) + p ≡ p = omega arith in
    get_or-swz_l_below w8 16 c.args.table 0 c.args.places i (omega (arith, c.requires.long))
    (Each1-get_or (λ p. p < 16) c.args.places i 0 (omega (arith, c.requires.long)) c.requires.within)
    ∙ ap (λ n. get_or c.args.table n 0) e

pub returns-clause-long : goal.returns-clause-long
returns-clause-long c = length-swz_l w8 16 c.args.table 0 c.args.places ∙ c.requires.long
