use Rattle.lapm_sender.proofs.Meaning.{means_exactly_always}
use Rattle.lapm_sender.proofs.laws.means_exactly.Goals as goal

pub returns : goal.returns
returns c = means_exactly_always
