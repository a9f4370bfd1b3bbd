use Rattle.signal_commands.proofs.Names.{map, string_bytes}
use Rattle.signal_commands.proofs.PickingUp.Headline.{headline-of, completes-of}
use Rattle.signal_commands.proofs.pickup.command.pickup.Goals as goal

pub returns-clause-headline : goal.returns-clause-headline
returns-clause-headline g c =
    headline-of (map string_bytes c.args.words.now) (g.F.Folder.state c.args.folder.now)
    (g.F.Folder.state c.pick_up_and_tell.new.folder) c.args.rec.now c.pick_up_and_tell.result c.pick_up_and_tell.ensures

pub returns-clause-completes : goal.returns-clause-completes
returns-clause-completes g c =
    completes-of (map string_bytes c.args.words.now) (g.F.Folder.state c.args.folder.now)
    (g.F.Folder.state c.pick_up_and_tell.new.folder) c.args.rec.now c.pick_up_and_tell.result c.pick_up_and_tell.ensures
