use Rattle.command_laws.proofs.Names.{refl}
use Rattle.command_laws.proofs.worked.runs.links_that_end.Goals as goal

pub returns : goal.returns
returns c = record {
  lost = record { broken = refl; last = refl; orig = refl; answ = refl };
  undetected = record { broken = refl; last = refl; orig = refl; answ = refl };
}
