use Rattle.signal_commands.proofs.PickingUp.Middles.{middles-give-what-was-sent, middles-without-noise-give-more, middles-are-never-lost}
use Rattle.signal_commands.proofs.pickup.laws.middles_give_what_was_sent.Goals as goal

pub returns : goal.returns
returns c = assumption (middles-give-what-was-sent, middles-without-noise-give-more, middles-are-never-lost)
