use Rattle.rate_4800.proofs.Twos.{comes-back}
use Rattle.rate_4800.proofs.laws.bits_come_back.Goals as goal

pub returns : goal.returns
returns c = comes-back
