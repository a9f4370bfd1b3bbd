use Rattle.trace_audit.proofs.Deciding.{verdicts-are-one}
use Rattle.trace_audit.proofs.promises.one_verdict.Goals as goal

pub returns : goal.returns
returns c =
    verdicts-are-one (record {
      one = c.differences_are_one.ensures.one;
      none = c.differences_are_one.ensures.none;
      cut = c.texts_have_one_cut.ensures;
    })
