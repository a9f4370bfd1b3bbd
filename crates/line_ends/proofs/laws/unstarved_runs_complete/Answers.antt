use Rattle.line_ends.proofs.Completing.{completes-unstarved, completes-with-few}
use Rattle.line_ends.proofs.laws.unstarved_runs_complete.Goals as goal

pub returns : goal.returns
returns c = assumption (completes-unstarved c.lost_links_were_starved.ensures.starved, completes-with-few c.few_losses_keep_links.ensures)
