use Rattle.xid_params.proofs.Exact.{some-answer}
use Rattle.xid_params.proofs.laws.one_answer.Goals as goal

pub returns : goal.returns
returns c = some-answer c.args.info.now c.read_offer.result c.read_offer.ensures.ok c.read_offer.ensures.fault
