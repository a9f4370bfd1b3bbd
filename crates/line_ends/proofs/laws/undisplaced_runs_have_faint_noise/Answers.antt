use Rattle.line_ends.proofs.Undisturbed.{displaces-none_is_faint}
use Rattle.line_ends.proofs.laws.undisplaced_runs_have_faint_noise.Goals as goal

pub returns : goal.returns
returns c = displaces-none_is_faint c.scripts_displace_by_their_lines_alone.ensures.empty c.faint_lines_are_never_lost.ensures.undisplaced
