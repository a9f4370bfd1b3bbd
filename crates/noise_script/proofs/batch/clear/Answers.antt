use Rattle.noise_script.proofs.Names.{◌∙◌, length-set, arith, nothing}
use Rattle.noise_script.proofs.Batched.{nothing-at}
use Rattle.noise_script.proofs.batch.clear.Goals as goal

pub loop-place-preserved : goal.loop-place-preserved
loop-place-preserved c = assumption (
  length-set c.loop-place.sums c.loop-place.place nothing ∙ c.loop-place.invariant.long,
  nothing-at c.loop-place.sums c.loop-place.place (omega arith) c.loop-place.invariant.each,
)

pub returns-clause-each : goal.returns-clause-each
returns-clause-each c = λ place within. c.loop-place.invariant.each place (omega (arith, within, c.loop-place-test.false))
