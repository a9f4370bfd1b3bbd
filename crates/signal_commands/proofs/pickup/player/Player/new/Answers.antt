use Rattle.signal_commands.proofs.Names.{[], ◌∙◌}
use Rattle.signal_commands.proofs.pickup.player.Player.new.Goals as goal

pub returns-clause-plays : goal.returns-clause-plays
returns-clause-plays c start = record {
  bits = [];
  read = c.in_ok-new.ensures.stands;
  heard = c.new-2.ensures.heard start;
  sender_is = c.new-2.ensures.sender ∙ c.sender_of.ensures;
}
