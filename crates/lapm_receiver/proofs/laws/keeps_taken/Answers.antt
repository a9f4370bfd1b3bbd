use Rattle.lapm_receiver.proofs.Keeping.{keeps_taken_always}
use Rattle.lapm_receiver.proofs.laws.keeps_taken.Goals as goal

pub returns : goal.returns
returns c = keeps_taken_always
