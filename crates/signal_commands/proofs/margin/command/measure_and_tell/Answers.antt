use Rattle.signal_commands.proofs.Names.{◌∙◌, [], Err, answers-done, answers-stopped, margin_line, OnlyOutputs-reads}
use Rattle.signal_commands.proofs.Margins.Headline.{refused-by}
use Rattle.signal_commands.proofs.margin.command.measure_and_tell.Goals as goal

pub returns-in-Ok : goal.returns-in-Ok
returns-in-Ok g c =
    answers-done _ _ _ _ _ c.in-Ok.margin _ _ (c.in-Ok.ensures.ends, c.in-Ok.ensures.reads.said) (OnlyOutputs-reads []
    c.in-Ok.ensures.reads) c.in-Ok.ensures.counts (c.as_slice.ensures.items ∙ c.margin_line.ensures ∙ (λ i. margin_line
    (c.cost.ensures.kept i) (c.sure.ensures i))) c.tell.ensures

pub returns-in-Err : goal.returns-in-Err
returns-in-Err g c =
    answers-stopped _ _ _ _ _ c.in-Err.stop _ (c.in-Err.ensures.ends, c.in-Err.ensures.reads.said) (OnlyOutputs-reads []
    c.in-Err.ensures.reads) (refused-by (g.F.Folder.state c.args.folder.now) _ (Err c.in-Err.stop) (OnlyOutputs-reads []
    c.in-Err.ensures.reads)) c.in-Err.ensures.counts c.tell_stop.ensures
