use Rattle.command_laws.proofs.Names.{refl}
use Rattle.command_laws.proofs.worked.rows.both_runs.Goals as goal

pub returns : goal.returns
returns c = record {
  ends = (record { done = refl; made = refl; last = refl }, record { done = refl; made = refl; last = refl });
  trace = refl;
}
