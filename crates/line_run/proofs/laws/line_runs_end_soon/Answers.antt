use Rattle.line_run.proofs.Cited.{arith}
use Rattle.line_run.proofs.Timing.{line-runs-end-soon, line-runs-advance, no-line-run-is-long}
use Rattle.line_run.proofs.laws.line_runs_end_soon.Goals as goal

pub returns : goal.returns
returns c = record {
  soon = grind (arith, line-runs-end-soon);
  fronts = line-runs-advance c.samples_are_carried.ensures.runs c.fronts_advance_soon.ensures;
  within_limits = no-line-run-is-long c.samples_are_carried.ensures.runs c.runs_end_soon.ensures.within_limits;
}
