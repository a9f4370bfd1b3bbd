use Rattle.command_base.proofs.Names.{length}
use Rattle.command_base.proofs.lines.+put_behind.Given as goal

abbrev pub decreases-put_behind : goal.decreases-put_behind
decreases-put_behind l = length l.words.now
