use Rattle.signal_commands.proofs.Names.{◌∙◌, Err, answers-done, answers-stopped, OnlyOutputs-one, EncodeNames}
use Rattle.signal_commands.specs.Encoding.Words.{named}
use Rattle.signal_commands.proofs.Encoding.Headline.{refused-by}
use Rattle.signal_commands.proofs.encode.command.encode_and_tell.Goals as goal

pub returns-in-Ok : goal.returns-in-Ok
returns-in-Ok g c =
    let n : EncodeNames = named c.args.names.now in
    answers-done _ _ _ _ _ c.in-Ok.samples _ _ (c.in-Ok.ensures.ends, c.in-Ok.ensures.only.said) (OnlyOutputs-one n.rec
    c.in-Ok.ensures.only) c.in-Ok.ensures.counts (c.as_slice.ensures.items ∙ c.samples_line.ensures) c.tell.ensures

pub returns-in-Err : goal.returns-in-Err
returns-in-Err g c =
    let n : EncodeNames = named c.args.names.now in
    answers-stopped _ _ _ _ _ c.in-Err.stop _ (c.in-Err.ensures.ends, c.in-Err.ensures.only.said) (OnlyOutputs-one n.rec
    c.in-Err.ensures.only) (refused-by (g.F.Folder.state c.args.folder.now) _ n (Err c.in-Err.stop) c.in-Err.ensures.ends)
    c.in-Err.ensures.counts c.tell_stop.ensures
