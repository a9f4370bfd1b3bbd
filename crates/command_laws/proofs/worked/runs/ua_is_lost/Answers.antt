use Rattle.command_laws.proofs.Names.{refl}
use Rattle.command_laws.proofs.worked.runs.ua_is_lost.Goals as goal

pub returns : goal.returns
returns c = record { done = refl; last = refl; orig = refl; answ = refl; orig_account = refl; answ_account = refl }
