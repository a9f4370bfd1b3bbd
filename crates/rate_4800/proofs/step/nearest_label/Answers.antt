use Rattle.rate_4800.proofs.Names.{◌≡◌, ◌∙◌, ◌%◌, arith, ap, sym, subst, sample_at, least_four, IsNearestLabel}
use Rattle.std.specs.Int.{w16, cast_signed, cast_unsigned}
use Rattle.std.proofs.lemmas.Int.{ints}
use Rattle.rate_4800.proofs.Nearest.{sample-at, nearest-of, least_product, products}
use Rattle.rate_4800.proofs.step.nearest_label.Goals as goal

pub returns : goal.returns
returns c =
    let s = c.args.sample in
    let x = c.counted-x.result in
    let y = c.counted-y.result in
    let re_read : cast_signed w16 (cast_unsigned w16 s.re) ≡ s.re = omega (arith, ints) in
    let im_read : cast_signed w16 (cast_unsigned w16 s.im) ≡ s.im = omega (arith, ints) in
    let is : c.least_of-least.result ≡ least_product x y = c.least_of-least.ensures
    ∙ ap (λ k. least_four k c.key-2.result c.key-3.result c.key-4.result) c.key.ensures
    ∙ ap (λ k. least_four (products x y 0) k c.key-3.result c.key-4.result) c.key-2.ensures
    ∙ ap (λ k. least_four (products x y 0) (products x y 1) k c.key-4.result) c.key-3.ensures
    ∙ ap (λ k. least_four (products x y 0) (products x y 1) (products x y 2) k) c.key-4.ensures in
    subst (λ v. IsNearestLabel v (c.least_of-least.result % 4))
    (sample-at s x y (c.counted-x.ensures.value ∙ re_read) (c.counted-y.ensures.value ∙ im_read))
    (subst (λ n. IsNearestLabel (sample_at x y) (n % 4)) (sym is) (nearest-of x y c.counted-x.ensures.bound c.counted-y.ensures.bound))
