use Rattle.line_run.proofs.Undisplaced.{later-displace_none, empty-displaces_none}
use Rattle.line_run.proofs.direction.scripts_displace_by_their_lines_alone.Goals as goal

pub returns : goal.returns
returns c = record { later = later-displace_none; empty = empty-displaces_none }
