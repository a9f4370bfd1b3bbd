use Rattle.signal_commands.proofs.PickingUp.Longer.{later_stand_behind}
use Rattle.signal_commands.proofs.pickup.laws.later_pieces_stand_behind.Goals as goal

pub returns : goal.returns
returns c = later_stand_behind
