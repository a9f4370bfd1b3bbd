use Rattle.line_run.proofs.Cited.{DisplacesNoneBefore}
use Rattle.line_run.proofs.Undisplaced.{undisplaced-followed}
use Rattle.line_run.proofs.Heard.{never-lost-where}
use Rattle.line_run.proofs.direction.undisplaced_lines_are_never_lost.Goals as goal

pub returns : goal.returns
returns c = never-lost-where DisplacesNoneBefore 96 undisplaced-followed
