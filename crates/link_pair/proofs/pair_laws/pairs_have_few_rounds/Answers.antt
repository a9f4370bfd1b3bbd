use Rattle.link_pair.proofs.Pairs.Leaving.{pairs-have-few-rounds}
use Rattle.link_pair.proofs.pair_laws.pairs_have_few_rounds.Goals as goal

pub returns : goal.returns
returns c = pairs-have-few-rounds c.line_runs_end_soon.ensures.soon c.line_runs_end_soon.ensures.within_limits
