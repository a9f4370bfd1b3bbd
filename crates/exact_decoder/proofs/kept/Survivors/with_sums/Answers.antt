use Rattle.exact_decoder.proofs.Names.{map, ap, arith, sum_in}
use Rattle.exact_decoder.proofs.Keeping.{start-tails}
use Rattle.exact_decoder.proofs.kept.Survivors.with_sums.Goals as goal

pub invariant_of-result : goal.invariant_of-result
invariant_of-result g c = record {
  sums_long = c.requires.sums.sums_long;
  states_in = c.requires.sums.states_in;
  bound = c.requires.sums.bound;
  reached = c.requires.sums.reached;
  columns_long = c.in_ok-ring.ensures.long;
  columns_fit = c.in_ok-ring.ensures.columns g.row.LABELS c.requires.labels;
  within = omega arith;
}

pub returns : goal.returns
returns g c = ap (λ l. record { sums = map sum_in c.args.sums.items; tails = l; unreleased = 0 }) (start-tails _ c.in_ok-ring.ring)
