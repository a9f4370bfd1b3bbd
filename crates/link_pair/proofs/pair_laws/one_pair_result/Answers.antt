use Rattle.link_pair.proofs.Pairs.OneEnd.{one-pair-result}
use Rattle.link_pair.proofs.pair_laws.one_pair_result.Goals as goal

pub returns : goal.returns
returns c = one-pair-result (assumption c.one_line_run.ensures.either_by)
