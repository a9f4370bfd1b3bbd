use Rattle.exact_decoder.proofs.Names.{◌≢◌, ◌<◌, length, refl, arith, get_or-set_other, get_or-set_same, below_more, length-set}
use Rattle.exact_decoder.proofs.room.no_sums.Goals as goal

pub loop-state-preserved : goal.loop-state-preserved
loop-state-preserved c = (
  simp length-set c.loop-state.invariant.0,
  below_more _ _
      (λ s h. let other : s ≢ c.loop-state.state = omega arith in rw get_or-set_other (c.loop-state.invariant.1 s h))
      (let within : c.loop-state.state < length c.loop-state.sums.items = omega (arith, c.loop-state.invariant.0, c.loop-state-test.true) in
      rw get_or-set_same refl),
)
