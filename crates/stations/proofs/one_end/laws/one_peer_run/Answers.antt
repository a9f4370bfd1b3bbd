use Rattle.stations.proofs.OneEnd.Once.{one-run, one-turn}
use Rattle.stations.proofs.one_end.laws.one_peer_run.Goals as goal

pub returns : goal.returns
returns c = record { run = one-run c.one_is_heard.ensures c.one_lone_run.ensures.run; turn = one-turn c.one_is_heard.ensures }
