use Rattle.frame_commands.proofs.Names.{◌∙◌, Err, FolderState}
use Rattle.command_base.proofs.Jobs.{answers-done, answers-stopped}
use Rattle.frame_commands.proofs.Listing.Headline.{refused-by}
use Rattle.frame_commands.proofs.frames.command.list_and_tell.Goals as goal

pub returns-in-Ok : goal.returns-in-Ok
returns-in-Ok g c =
    let before : FolderState = g.F.Folder.state c.list_pieces.new.folder in
    answers-done _ _ _ before _ c.in-Ok.pieces _ _ c.in-Ok.ensures.ends c.in-Ok.ensures.only c.in-Ok.ensures.counts
    (c.as_slice.ensures.items ∙ c.pieces_line.ensures) c.tell.ensures

pub returns-in-Err : goal.returns-in-Err
returns-in-Err g c =
    let before : FolderState = g.F.Folder.state c.list_pieces.new.folder in
    answers-stopped _ _ _ before _ c.in-Err.stop _ c.in-Err.ensures.ends c.in-Err.ensures.only (refused-by (g.F.Folder.state
    c.args.folder.now) before (Err c.in-Err.stop) c.in-Err.ensures.only) c.in-Err.ensures.counts c.tell_stop.ensures
