use Rattle.command_laws.proofs.Names.{refl}
use Rattle.command_laws.proofs.Texts.{plain_trace}
use Rattle.command_laws.proofs.worked.runs.two_one_octet_files.Goals as goal

pub returns : goal.returns
returns c = record {
  trace = plain_trace;
  ends = record { done = refl; last = refl; orig = refl; answ = refl; orig_account = refl; answ_account = refl };
}
