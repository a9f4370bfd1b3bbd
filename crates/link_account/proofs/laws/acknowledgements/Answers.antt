use Rattle.link_account.proofs.Playing.{acknowledges_taken_always}
use Rattle.link_account.proofs.BreakPlaying.{answers_given_always}
use Rattle.link_account.proofs.laws.acknowledgements.Goals as goal

pub returns : goal.returns
returns c = record { taken = acknowledges_taken_always; breaks = answers_given_always }
