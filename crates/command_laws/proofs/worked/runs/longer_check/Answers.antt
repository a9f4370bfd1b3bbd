use Rattle.command_laws.proofs.Names.{refl}
use Rattle.command_laws.proofs.worked.runs.longer_check.Goals as goal

pub returns : goal.returns
returns c = record {
  ends = record { done = refl; last = refl; orig = refl; answ = refl; orig_account = refl; answ_account = refl };
  checks = record { orig = refl; answ = refl; orig_sent = refl; answ_sent = refl };
}
