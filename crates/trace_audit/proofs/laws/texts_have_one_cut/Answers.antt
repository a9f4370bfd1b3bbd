use Rattle.trace_audit.proofs.Cuts.{one-cut}
use Rattle.trace_audit.proofs.laws.texts_have_one_cut.Goals as goal

pub returns : goal.returns
returns c = one-cut
