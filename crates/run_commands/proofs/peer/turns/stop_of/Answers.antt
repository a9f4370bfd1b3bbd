use Rattle.run_commands.proofs.Names.{sym, ◌∙◌, ap, Own, fault_stop}
use Rattle.run_commands.proofs.peer.turns.stop_of.Goals as goal

pub returns-in-Link : goal.returns-in-Link
returns-in-Link c = ap Own c.status_of.ensures ∙ sym (ap (fault_stop c.args.role c.args.turn) c.in-Link.is)
