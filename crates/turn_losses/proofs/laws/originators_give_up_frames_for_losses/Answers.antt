use Rattle.turn_losses.proofs.Trying.{originator-wants-frame}
use Rattle.turn_losses.proofs.laws.originators_give_up_frames_for_losses.Goals as goal

pub returns : goal.returns
returns c = originator-wants-frame c.reads_written.ensures.read
