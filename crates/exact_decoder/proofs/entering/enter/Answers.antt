use Rattle.exact_decoder.proofs.Names.{◌≢◌, ◌<◌, length, arith, get_or-set_other, get_or-set_same, below_more, length-set}
use Rattle.exact_decoder.proofs.entering.enter.Goals as goal

pub loop-to-preserved : goal.loop-to-preserved
loop-to-preserved g c = (
  simp length-set c.loop-to.invariant.0,
  below_more _ _
      (λ i h. let other : i ≢ c.loop-to.to = omega arith in rw get_or-set_other (c.loop-to.invariant.1 i h))
      (let within : c.loop-to.to < length c.loop-to.entered = omega arith in
      rw get_or-set_same (c.least_into.ensures.least, c.least_into.ensures.bound)),
)
