use Rattle.rate_4800.proofs.Reading.{all-released}
use Rattle.rate_4800.proofs.laws.all_are_released.Goals as goal

pub returns : goal.returns
returns c = all-released
