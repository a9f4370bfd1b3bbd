use Rattle.trace_audit.proofs.Judging.{headline-of}
use Rattle.trace_audit.proofs.promises.answers_keep_the_headline.Goals as goal

pub returns : goal.returns
returns c = headline-of
