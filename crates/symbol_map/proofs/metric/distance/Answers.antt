use Rattle.symbol_map.proofs.Names.{◌≡◌, ℕ, ◌+◌, ◌*◌, ◌∙◌, ap, arith, ints, cast_signed, cast_unsigned, w16, ℤ, ◌-ℤ◌, unsigned_abs}
use Rattle.symbol_map.proofs.Names.{squared_gap}
use Rattle.symbol_map.proofs.metric.distance.Goals as goal

square : (gap : ℕ) (a b p q : ℤ) → gap ≡ unsigned_abs (p -ℤ q) → p ≡ a → q ≡ b → gap * gap ≡ squared_gap a b
square gap a b p q is m n = ap (λ k. k * k) (is ∙ ap (λ k. unsigned_abs (k -ℤ q)) m ∙ ap (λ k. unsigned_abs (a -ℤ k)) n)

pub returns-clause-value : goal.returns-clause-value
returns-clause-value c =
    let a = c.args.a in
    let b = c.args.b in
    let a_re : cast_signed w16 (cast_unsigned w16 a.re) ≡ a.re = omega (arith, ints) in
    let b_re : cast_signed w16 (cast_unsigned w16 b.re) ≡ b.re = omega (arith, ints) in
    let a_im : cast_signed w16 (cast_unsigned w16 a.im) ≡ a.im = omega (arith, ints) in
    let b_im : cast_signed w16 (cast_unsigned w16 b.im) ≡ b.im = omega (arith, ints) in
    let re = c.from.ensures ∙ square _ _ _ _ _ c.gap-re.ensures.value a_re b_re in
    let im = c.from-2.ensures ∙ square _ _ _ _ _ c.gap-im.ensures.value a_im b_im in
    ap (λ n. n + c.from-2.result) re ∙ ap (λ n. squared_gap a.re b.re + n) im
