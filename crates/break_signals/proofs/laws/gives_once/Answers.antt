use Rattle.break_signals.proofs.Giving.{gives_once_always}
use Rattle.break_signals.proofs.laws.gives_once.Goals as goal

pub returns : goal.returns
returns c = gives_once_always
