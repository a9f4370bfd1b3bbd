use Rattle.std.proofs.Common.{sym, ap}
use Rattle.shared_terms.specs.Cause.{cause_word}
use Rattle.shared_terms.proofs.cause.Cause.word.Goals as goal

pub returns-in-Range-clause-word : goal.returns-in-Range-clause-word
returns-in-Range-clause-word c = sym (ap cause_word c.in-Range.is)
