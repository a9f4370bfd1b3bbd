use Rattle.turn_bound.proofs.Bounding.{ends-soon-always, by-files-always, by-octets-always, no-run-is-long-always}
use Rattle.turn_bound.proofs.laws.runs_end_soon.Goals as goal

pub returns : goal.returns
returns c = assumption (ends-soon-always, by-files-always, by-octets-always, no-run-is-long-always)
