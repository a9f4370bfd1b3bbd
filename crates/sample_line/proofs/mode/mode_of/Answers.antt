use Rattle.sample_line.proofs.Names.{sym, ap, mode_of}
use Rattle.sample_line.proofs.mode.mode_of.Goals as goal

pub returns-in-Answerer : goal.returns-in-Answerer
returns-in-Answerer c = sym (ap mode_of c.in-Answerer.is)
