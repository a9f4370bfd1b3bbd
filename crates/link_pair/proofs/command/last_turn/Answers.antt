use Rattle.link_pair.proofs.Names.{ap, sym, last_turn_of, run_end, LinkEnd}
use Rattle.link_pair.proofs.command.last_turn.Goals as goal

pub returns-in-NotDetected : goal.returns-in-NotDetected
returns-in-NotDetected c = ap (λ (end : LinkEnd). last_turn_of c.args.link (run_end end)) (sym c.in-NotDetected.is)
