use Rattle.link_account.proofs.SaidNumbers.{says_numbers}
use Rattle.link_account.proofs.laws.ends.Goals as goal

pub returns : goal.returns
returns c = record { numbers = says_numbers }
