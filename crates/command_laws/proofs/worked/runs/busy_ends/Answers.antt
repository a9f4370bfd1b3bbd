use Rattle.command_laws.proofs.Names.{refl}
use Rattle.command_laws.proofs.Texts.{busy_line}
use Rattle.command_laws.proofs.worked.runs.busy_ends.Goals as goal

pub returns : goal.returns
returns c = record {
  line = busy_line;
  short = record { done = refl; last = refl; orig = refl; answ = refl; orig_account = refl; answ_account = refl };
  long = record { done = refl; last = refl; orig = refl; answ = refl; orig_account = refl; answ_account = refl };
}
