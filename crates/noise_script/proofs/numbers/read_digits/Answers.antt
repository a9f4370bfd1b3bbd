use Rattle.std.proofs.Common.{sym, ◌∙◌, arith}
use Rattle.noise_script.proofs.Digits.{digit-more, digits-more, front-small, tenfold-fits}
use Rattle.noise_script.proofs.numbers.read_digits.Goals as goal

pub overflow_mul-value : goal.overflow_mul-value
overflow_mul-value c =
    let small = tenfold-fits c.args.word.now c.loop-octet.octet-index c.loop-octet.value 0 c.loop-octet-test.true c.if-word-gt20.false
    c.loop-octet.invariant.digits c.loop-octet.invariant.value (omega arith) in grind (arith)

pub overflow_add-value : goal.overflow_add-value
overflow_add-value c =
    let low = c.type_inv.word c.loop-octet.octet-index in
    let small = tenfold-fits c.args.word.now c.loop-octet.octet-index c.loop-octet.value c.from.result c.loop-octet-test.true
    c.if-word-gt20.false c.loop-octet.invariant.digits c.loop-octet.invariant.value (omega (arith, low, c.from.ensures)) in
    omega (arith, small)

pub loop-octet-preserved : goal.loop-octet-preserved
loop-octet-preserved c = assumption (
  digit-more _ _ _ _ c.loop-octet-test.true c.loop-octet.invariant.value c.from.ensures,
  digits-more _ _ c.loop-octet-test.true c.loop-octet.invariant.digits (sym c.is_ascii_digit.ensures.value ∙ c.if-not-is_ascii_digit.false),
)

pub returns-clause-small : goal.returns-clause-small
returns-clause-small c =
    let small = front-small _ _ 20 c.loop-octet.invariant.digits c.loop-octet.auto.octet-index-end (omega arith) in
    omega (arith, small, c.loop-octet.invariant.value)
