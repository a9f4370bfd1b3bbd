use Rattle.xid_params.proofs.Found.{spelling_is_found_always}
use Rattle.xid_params.proofs.laws.spelling_is_found.Goals as goal

pub returns : goal.returns
returns c = spelling_is_found_always
