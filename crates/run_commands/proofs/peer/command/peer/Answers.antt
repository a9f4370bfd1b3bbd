use Rattle.run_commands.proofs.Names.{map, string_bytes, named}
use Rattle.run_commands.proofs.Peering.Headline.{headline-of, completes-of}
use Rattle.run_commands.proofs.peer.command.peer.Goals as goal

pub returns-clause-headline : goal.returns-clause-headline
returns-clause-headline g c =
    headline-of (map string_bytes c.args.words.now) (g.F.Folder.state c.args.folder.now) (g.F.Folder.state c.meet_and_tell.new.folder)
    (named c.args.names.now) c.meet_and_tell.result c.meet_and_tell.ensures

pub returns-clause-completes : goal.returns-clause-completes
returns-clause-completes g c =
    completes-of c.one_result.ensures (map string_bytes c.args.words.now) (g.F.Folder.state c.args.folder.now)
    (g.F.Folder.state c.meet_and_tell.new.folder) (named c.args.names.now) c.meet_and_tell.result c.meet_and_tell.ensures
