use Rattle.break_signals.proofs.Spelling.{is_read_back_always}
use Rattle.break_signals.proofs.laws.is_read_back.Goals as goal

pub returns : goal.returns
returns c = is_read_back_always
