use Rattle.signal_commands.proofs.Names.{map, string_bytes}
use Rattle.signal_commands.specs.Encoding.Words.{named}
use Rattle.signal_commands.proofs.Encoding.Headline.{headline-of, completes-of}
use Rattle.signal_commands.proofs.encode.command.encode.Goals as goal

pub returns-clause-headline : goal.returns-clause-headline
returns-clause-headline g c =
    headline-of (map string_bytes c.args.words.now) (g.F.Folder.state c.args.folder.now) (g.F.Folder.state c.encode_and_tell.new.folder)
    (named c.args.names.now) c.encode_and_tell.result c.encode_and_tell.ensures

pub returns-clause-completes : goal.returns-clause-completes
returns-clause-completes g c =
    completes-of (map string_bytes c.args.words.now) (g.F.Folder.state c.args.folder.now) (g.F.Folder.state c.encode_and_tell.new.folder)
    (named c.args.names.now) c.encode_and_tell.result c.encode_and_tell.ensures
