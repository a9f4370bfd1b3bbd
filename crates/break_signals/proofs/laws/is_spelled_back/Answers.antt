use Rattle.break_signals.proofs.Spelling.{is_spelled_back_always}
use Rattle.break_signals.proofs.laws.is_spelled_back.Goals as goal

pub returns : goal.returns
returns c = is_spelled_back_always
