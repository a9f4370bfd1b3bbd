use Rattle.run_commands.proofs.Peering.Once.{one-result}
use Rattle.run_commands.proofs.peer.laws.one_result.Goals as goal

pub returns : goal.returns
returns c = one-result (record { run = c.one_peer_run.ensures.run; turn = c.one_peer_run.ensures.turn })
