use Rattle.xid_params.proofs.Exact.{one-offer}
use Rattle.xid_params.proofs.laws.one_offer.Goals as goal

pub returns : goal.returns
returns c = one-offer
