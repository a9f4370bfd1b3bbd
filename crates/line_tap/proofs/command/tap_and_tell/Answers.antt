use Rattle.line_tap.proofs.Cited.{◌∙◌, Err, TapNames, named}
use Rattle.command_base.proofs.Jobs.{answers-done, answers-stopped}
use Rattle.line_tap.proofs.Taps.{refused-by}
use Rattle.line_tap.proofs.command.tap_and_tell.Goals as goal

pub returns-in-Ok : goal.returns-in-Ok
returns-in-Ok g c =
    answers-done _ _ _ _ _ c.in-Ok.turns _ _ (c.in-Ok.ensures.ends, c.in-Ok.ensures.said) c.in-Ok.ensures.only
    c.in-Ok.ensures.counts (c.as_slice.ensures.items ∙ c.turns_line.ensures) c.tell.ensures

pub returns-in-Err : goal.returns-in-Err
returns-in-Err g c =
    let n : TapNames = named c.args.names.now in
    answers-stopped _ _ _ _ _ c.in-Err.stop _ (c.in-Err.ensures.ends, c.in-Err.ensures.said) c.in-Err.ensures.only (refused-by
    (g.F.Folder.state c.args.folder.now) _ n (Err c.in-Err.stop) c.in-Err.ensures.ends) c.in-Err.ensures.counts c.tell_stop.ensures
