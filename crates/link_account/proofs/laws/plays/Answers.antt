use Rattle.link_account.proofs.Playing.{takes_in_order_always, takes_by_number_always, breaks_for_want_always}
use Rattle.link_account.proofs.BreakPlaying.{gives_breaks_always}
use Rattle.link_account.proofs.laws.plays.Goals as goal

pub returns : goal.returns
returns c = assumption (takes_in_order_always, takes_by_number_always, breaks_for_want_always, gives_breaks_always)
