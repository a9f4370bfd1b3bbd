use Rattle.line_run.proofs.Cited.{IsFaintBefore}
use Rattle.line_run.proofs.Faint.{faint-followed, undisplaced-is-faint}
use Rattle.line_run.proofs.Heard.{never-lost-where}
use Rattle.line_run.proofs.direction.faint_lines_are_never_lost.Goals as goal

pub returns : goal.returns
returns c = record { undisplaced = undisplaced-is-faint; never = never-lost-where IsFaintBefore 504 faint-followed }
