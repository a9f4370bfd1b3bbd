use Rattle.trace_audit.proofs.Cited.{◌∙◌, []}
use Rattle.outside_calls.proofs.OnlyOutputs.{OnlyOutputs-reads}
use Rattle.command_base.proofs.Jobs.{answers-done, answers-stopped}
use Rattle.trace_audit.proofs.command.audit_and_tell.Goals as goal

pub returns-in-Ok : goal.returns-in-Ok
returns-in-Ok g c =
    answers-done _ _ _ _ _ c.in-Ok.lines _ _ (c.in-Ok.ensures.ends, c.in-Ok.ensures.reads) (OnlyOutputs-reads []
    c.in-Ok.ensures.reads) c.in-Ok.ensures.counts (c.as_slice.ensures.items ∙ c.true_line.ensures) c.tell.ensures

pub returns-in-Err : goal.returns-in-Err
returns-in-Err g c =
    answers-stopped _ _ _ _ _ c.in-Err.stop _ (c.in-Err.ensures.ends, c.in-Err.ensures.reads) (OnlyOutputs-reads []
    c.in-Err.ensures.reads) (λ r. c.in-Err.ensures.reads.names) c.in-Err.ensures.counts c.tell_stop.ensures
