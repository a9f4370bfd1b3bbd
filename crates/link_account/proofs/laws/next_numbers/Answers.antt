use Rattle.link_account.proofs.Playing.{sends_in_range_always}
use Rattle.link_account.proofs.laws.next_numbers.Goals as goal

pub returns : goal.returns
returns c = sends_in_range_always
