use Rattle.run_commands.proofs.Soaking.Headline.{completes-of}
use Rattle.run_commands.proofs.soak.laws.carried_soaks_are_done.Goals as goal

pub returns : goal.returns
returns c = completes-of c.one_result.ensures c.lost_links_were_starved.ensures.starved
