use Rattle.lapm_link.proofs.Telling.{account_tells}
use Rattle.lapm_link.proofs.laws.ends.Goals as goal

pub returns : goal.returns
returns c = account_tells
