use Rattle.command_laws.proofs.Names.{refl}
use Rattle.command_laws.proofs.Texts.{break_asked, break_given}
use Rattle.command_laws.proofs.worked.runs.breaks.Goals as goal

pub returns : goal.returns
returns c = record {
  asked = break_asked;
  given = break_given;
  answered = record { done = refl; last = refl; orig = refl; answ = refl; orig_account = refl; answ_account = refl };
  again = record { done = refl; last = refl; orig = refl; answ = refl; orig_account = refl; answ_account = refl };
}
