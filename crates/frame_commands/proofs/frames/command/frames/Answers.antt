use Rattle.frame_commands.proofs.Names.{map, string_bytes, named}
use Rattle.frame_commands.proofs.Listing.Headline.{headline-of, completes-of}
use Rattle.frame_commands.proofs.frames.command.frames.Goals as goal

pub returns-clause-headline : goal.returns-clause-headline
returns-clause-headline g c =
    headline-of (map string_bytes c.args.words.now) (g.F.Folder.state c.args.folder.now) (g.F.Folder.state c.list_and_tell.new.folder)
    (named c.args.names.now) c.list_and_tell.result c.list_and_tell.ensures

pub returns-clause-completes : goal.returns-clause-completes
returns-clause-completes g c =
    completes-of (map string_bytes c.args.words.now) (g.F.Folder.state c.args.folder.now) (g.F.Folder.state c.list_and_tell.new.folder)
    (named c.args.names.now) c.list_and_tell.result c.list_and_tell.ensures
