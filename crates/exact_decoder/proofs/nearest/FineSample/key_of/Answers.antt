use Rattle.exact_decoder.proofs.Names.{◌≡◌, ℕ, ◌+◌, ◌*◌, ◌^◌, ◌<◌, arith, subst, distance_of, Sample, ◌∙◌, ap, ints, w16, cast_signed, cast_unsigned, ℤ, pos, unsigned_abs}
use Rattle.exact_decoder.proofs.Names.{◌-ℤ◌, ◌*ℤ◌, squared_gap}
use Rattle.std.specs.Int.{w64}
use Rattle.exact_decoder.proofs.nearest.FineSample.key_of.Goals as goal

square : (n : ℕ) → 256 * n * (256 * n) ≡ 65536 * (n * n)
square n = grind arith

-- a square of a gap that is 256 times as large
squared-fine : (square gap : ℕ) (a b : ℤ) → square ≡ gap * gap → gap ≡ 256 * unsigned_abs (a -ℤ b) → square ≡ 65536 * squared_gap a b
squared-fine n gap a b e f = e ∙ ap (λ n. n * n) f ∙ square (unsigned_abs (a -ℤ b))

-- squares that fit are those of near coordinates
close : (square other n m : ℕ) → square ≡ 65536 * n → other ≡ 65536 * m → square < 2 ^ 48 → other < 2 ^ 48 → n + m < 2 ^ 33
close square other n m e f few less = omega arith

pub returns : goal.returns
returns c =
    let s = c.self.inside.sample in
    let p = c.args.point in
    let re_fine : cast_signed w64 (cast_unsigned w64 c.self.inside.re) ≡ pos 256 *ℤ s.re = omega (arith, ints, c.self.invariant.0) in
    let im_fine : cast_signed w64 (cast_unsigned w64 c.self.inside.im) ≡ pos 256 *ℤ s.im = omega (arith, ints, c.self.invariant.1) in
    let re_point : cast_signed w16 (cast_unsigned w16 p.re) ≡ p.re = omega (arith, ints) in
    let im_point : cast_signed w16 (cast_unsigned w16 p.im) ≡ p.im = omega (arith, ints) in
    let re = squared-fine c.squared.result c.fine_gap-re.result p.re s.re c.squared.ensures.value (c.fine_gap-re.ensures.value s.re re_fine
    ∙ ap (λ n. 256 * unsigned_abs (n -ℤ s.re)) re_point) in
    let im = squared-fine c.squared-2.result c.fine_gap-im.result p.im s.im c.squared-2.ensures.value
    (c.fine_gap-im.ensures.value s.im im_fine ∙ ap (λ n. 256 * unsigned_abs (n -ℤ s.im)) im_point) in
    record {
      value = grind (arith);
      bound = omega (arith, c.squared.ensures.bound, c.squared-2.ensures.bound);
      close = subst (λ (heard : Sample). distance_of p heard < 2 ^ 33) c.self.view_is
          (close c.squared.result c.squared-2.result (squared_gap p.re s.re) (squared_gap p.im s.im) re im c.squared.ensures.bound
          c.squared-2.ensures.bound);
    }
