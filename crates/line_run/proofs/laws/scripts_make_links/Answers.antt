use Rattle.line_run.proofs.Scripting.{scripts_may_play, scripts_have_delays, breaks_are_the_scripts, pauses_are_the_scripts}
use Rattle.line_run.proofs.laws.scripts_make_links.Goals as goal

pub returns : goal.returns
returns c = assumption (scripts_may_play, scripts_have_delays, breaks_are_the_scripts, pauses_are_the_scripts)
