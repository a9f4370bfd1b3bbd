use Rattle.run_commands.proofs.Names.{sym, ap, lose_head}
use Rattle.run_commands.proofs.soak.script.lose_head.Goals as goal

pub returns-in-Answerer : goal.returns-in-Answerer
returns-in-Answerer c = sym (ap lose_head c.in-Answerer.is)
