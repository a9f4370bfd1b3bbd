use Rattle.line_coding.proofs.Readings.{comes-back}
use Rattle.line_coding.proofs.laws.bits_come_back.Goals as goal

pub returns : goal.returns
returns c = comes-back
