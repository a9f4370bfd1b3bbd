use Rattle.trace_audit.proofs.Judging.{completes-of}
use Rattle.trace_audit.proofs.promises.right_traces_are_judged.Goals as goal

pub returns : goal.returns
returns c =
    completes-of (record {
      result = c.one_result.ensures;
      one = c.one_answer.ensures.scripts;
      apart = c.one_answer.ensures.apart;
      verdict = record {
        one = c.differences_are_one.ensures.one;
        none = c.differences_are_one.ensures.none;
        cut = c.texts_have_one_cut.ensures;
      };
    })
