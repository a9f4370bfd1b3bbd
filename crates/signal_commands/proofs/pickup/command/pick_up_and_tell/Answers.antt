use Rattle.signal_commands.proofs.Names.{◌∙◌, Err, answers-done, answers-stopped}
use Rattle.signal_commands.proofs.PickingUp.Headline.{refused-by}
use Rattle.signal_commands.proofs.pickup.command.pick_up_and_tell.Goals as goal

pub returns-in-Ok : goal.returns-in-Ok
returns-in-Ok g c =
    answers-done _ _ _ _ _ c.in-Ok.pieces _ _ c.in-Ok.ensures.ends c.in-Ok.ensures.only c.in-Ok.ensures.counts
    (c.as_slice.ensures.items ∙ c.pieces_line.ensures) c.tell.ensures

pub returns-in-Err : goal.returns-in-Err
returns-in-Err g c =
    answers-stopped _ _ _ _ _ c.in-Err.stop _ c.in-Err.ensures.ends c.in-Err.ensures.only (refused-by (g.F.Folder.state
    c.args.folder.now) _ (Err c.in-Err.stop) c.in-Err.ensures.only) c.in-Err.ensures.counts c.tell_stop.ensures
