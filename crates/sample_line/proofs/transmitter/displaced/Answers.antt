use Rattle.std.proofs.Common.{◌≡◌, ◌∙◌, ℤ, ◌+ℤ◌, arith}
use Rattle.std.specs.Int.{w32, cast_signed, cast_unsigned}
use Rattle.std.proofs.lemmas.Int.{ints}
use Rattle.sample_line.specs.Recorded.{saturated}
use Rattle.sample_line.proofs.Standing.{same-saturated}
use Rattle.sample_line.proofs.transmitter.displaced.Goals as goal
use Rattle.symbol_map.proofs.Distances.{same_sample}

pub returns : goal.returns
returns c =
    let re_sum : ℤ = cast_signed w32
    (cast_unsigned w32 (cast_signed w32 (cast_unsigned w32 c.args.offset.re) +ℤ cast_signed w32 (cast_unsigned w32 c.from.result))) in
    let im_sum : ℤ = cast_signed w32
    (cast_unsigned w32 (cast_signed w32 (cast_unsigned w32 c.args.offset.im) +ℤ cast_signed w32 (cast_unsigned w32 c.from-2.result))) in
    let re_is : re_sum ≡ c.args.offset.re +ℤ c.args.point.re = omega (arith, ints, c.from.ensures) in
    let im_is : im_sum ≡ c.args.offset.im +ℤ c.args.point.im = omega (arith, ints, c.from-2.ensures) in
    let re : c.saturated.result ≡ saturated (c.args.offset.re +ℤ c.args.point.re) =
    same-saturated c.saturated.result re_sum (c.args.offset.re +ℤ c.args.point.re) c.saturated.ensures re_is in
    let im : c.saturated-2.result ≡ saturated (c.args.offset.im +ℤ c.args.point.im) =
    same-saturated c.saturated-2.result im_sum (c.args.offset.im +ℤ c.args.point.im) c.saturated-2.ensures im_is in
    same_sample _ _ (omega (arith, ints, c.saturated.type_inv) ∙ re) (omega (arith, ints, c.saturated-2.type_inv) ∙ im)
