use Rattle.link_account.proofs.Playing.{sends_what_was_offered_always, agrees_on_srej_always}
use Rattle.link_account.proofs.laws.frames_on_the_line.Goals as goal

pub returns : goal.returns
returns c = record { offered = sends_what_was_offered_always; srej = agrees_on_srej_always }
