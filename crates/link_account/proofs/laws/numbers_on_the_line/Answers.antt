use Rattle.link_account.proofs.Playing.{known_by_number_always}
use Rattle.link_account.proofs.BreakPlaying.{sends_breaks_taken_always}
use Rattle.link_account.proofs.laws.numbers_on_the_line.Goals as goal

pub returns : goal.returns
returns c = record { segments = known_by_number_always; breaks = sends_breaks_taken_always }
