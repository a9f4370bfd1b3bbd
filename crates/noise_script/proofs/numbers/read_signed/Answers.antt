use Rattle.noise_script.proofs.Names.{◌≡◌, ◌∙◌, inl, inr, true, IfSome, subst, arith, ints, w16, cast_signed, cast_unsigned, is_signed}
use Rattle.noise_script.proofs.Names.{signed_value_of}
use Rattle.std.specs.Prelude.{ℤ}
use Rattle.std.specs.Int.{w128}
use Rattle.noise_script.proofs.numbers.read_signed.Goals as goal
use Rattle.noise_script.proofs.numbers.read_signed.Goals.{then-value-from-via-then-value-from}
use Rattle.noise_script.proofs.numbers.read_signed.Goals.{then-value-from-via-else-value-from+then-value-from-2}

pub returns-then-value-from : goal.returns-then-value-from
returns-then-value-from c =
    let read = subst (λ o. IfSome o (λ (v : ℤ). (is_signed c.args.word.now ≡ true) × (v ≡ signed_value_of c.args.word.now)))
    c.in_ok-value.ensures.ok_part c.read_signed_digits.ensures.some in (
      read.0,
      elim c.then-value-from.branch [
        | then-value-from-via-then-value-from w ↦ inl (omega (arith, ints, w.if-value-from.true, c.from.ensures, read.1))
        | then-value-from-via-else-value-from+then-value-from-2 w ↦
            inr (omega (arith, ints, w.if-value-from-2.true, w.from-else-value-from.ensures, read.1))
      ],
    )

pub returns : goal.returns
returns c =
    let read = subst (λ o. IfSome o (λ (v : ℤ). (is_signed c.args.word.now ≡ true) × (v ≡ signed_value_of c.args.word.now)))
    c.in_ok-value.ensures.ok_part c.read_signed_digits.ensures.some in
    let low = c.from.ensures in
    let high = c.from-else-value-from.ensures in
    let value = c.in_ok-value.value in
    let is : cast_signed w16 (cast_unsigned w16 (cast_signed w128 (cast_unsigned w128 value))) ≡ value =
    omega (arith, ints, c.if-value-from.false, c.if-value-from-2.false, low, high) in
    record {
      digits = read.0;
      value_is = is ∙ read.1;
      not_below = omega (arith, ints, c.if-value-from.false, low, is);
      not_above = omega (arith, ints, c.if-value-from-2.false, high, is);
    }
