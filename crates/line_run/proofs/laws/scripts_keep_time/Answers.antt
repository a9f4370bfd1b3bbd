use Rattle.line_run.proofs.Timing.{scripts-keep-time}
use Rattle.line_run.proofs.laws.scripts_keep_time.Goals as goal

pub returns : goal.returns
returns c = scripts-keep-time
