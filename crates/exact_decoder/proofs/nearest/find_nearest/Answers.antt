use Rattle.exact_decoder.proofs.Names.{◌≢◌, ℕ, ◌<◌, length, arith, get_or-set_other, get_or-set_same, below_more, length-set}
use Rattle.exact_decoder.proofs.nearest.find_nearest.Goals as goal

pub loop-subset-preserved : goal.loop-subset-preserved
loop-subset-preserved g c =
    let nearest = rw c.new-fine.ensures at c.nearest_in.ensures.nearest in
    let close = rw c.new-fine.ensures at c.nearest_in.ensures.close in (
      simp length-set c.loop-subset.invariant.0,
      below_more _ _
          (λ i h. let other : i ≢ c.loop-subset.subset = omega arith in rw get_or-set_other (c.loop-subset.invariant.1 i h))
          (let within : c.loop-subset.subset < length c.loop-subset.nearest = omega arith in
          rw get_or-set_same (nearest, c.nearest_in.ensures.bound, close)),
    )

pub returns : goal.returns
returns g c =
    let (long, below) = c.loop-subset.invariant in
    let low : (s : ℕ) → s < g.C.TrellisCode.SUBSETS → s < c.loop-subset.subset = λ s h. omega (arith, h, c.loop-subset-test.false) in
    record {
      nearest = λ s h. (below s (low s h)).0;
      bound = λ s h. (below s (low s h)).1;
      close = λ s h. (below s (low s h)).2;
      long = long;
    }
