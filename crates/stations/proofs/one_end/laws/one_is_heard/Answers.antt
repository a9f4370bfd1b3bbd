use Rattle.stations.proofs.OneEnd.Once.{one-heard}
use Rattle.stations.proofs.one_end.laws.one_is_heard.Goals as goal

pub returns : goal.returns
returns c =
    one-heard (record { pattern = c.one_pattern.ensures.kind; lent = c.one_lent.ensures.no_other; frame = c.one_checked.ensures.one_frame })
