use Rattle.signal_commands.proofs.Names.{◌∙◌, Err, answers-done, answers-stopped, OnlyOutputs-one, DecodeNames, named}
use Rattle.signal_commands.proofs.Decoding.Headline.{refused-by}
use Rattle.signal_commands.proofs.decode.command.decode_and_tell.Goals as goal

pub returns-in-Ok : goal.returns-in-Ok
returns-in-Ok g c =
    let n : DecodeNames = named c.args.names.now in
    answers-done _ _ _ _ _ c.in-Ok.octets _ _ (c.in-Ok.ensures.ends, c.in-Ok.ensures.only.said) (OnlyOutputs-one n.file
    c.in-Ok.ensures.only) c.in-Ok.ensures.counts (c.as_slice.ensures.items ∙ c.octets_line.ensures) c.tell.ensures

pub returns-in-Err : goal.returns-in-Err
returns-in-Err g c =
    let n : DecodeNames = named c.args.names.now in
    answers-stopped _ _ _ _ _ c.in-Err.stop _ (c.in-Err.ensures.ends, c.in-Err.ensures.only.said) (OnlyOutputs-one n.file
    c.in-Err.ensures.only) (refused-by (g.F.Folder.state c.args.folder.now) _ n (Err c.in-Err.stop) c.in-Err.ensures.ends)
    c.in-Err.ensures.counts c.tell_stop.ensures
