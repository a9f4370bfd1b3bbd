use Rattle.command_laws.proofs.Names.{refl}
use Rattle.command_laws.proofs.worked.runs.lost_far_away.Goals as goal

pub returns : goal.returns
returns c = record {
  rej = record { done = refl; last = refl; orig = refl; answ = refl; orig_account = refl; answ_account = refl };
  srej = record { done = refl; last = refl; orig = refl; answ = refl; orig_account = refl; answ_account = refl };
  rej_counts = record { lost_is = refl; again_is = refl };
  srej_counts = record { lost_is = refl; again_is = refl };
}
