use Rattle.link_run.proofs.Sizing.{sends_short}
use Rattle.link_run.proofs.laws.frames_are_short.Goals as goal

pub returns : goal.returns
returns c = sends_short c.reads_allowed.ensures c.keeps_taken.ensures c.reads_written.ensures.read
