use Rattle.signal_commands.proofs.Names.{map, string_bytes}
use Rattle.signal_commands.specs.Margins.Words.{named}
use Rattle.signal_commands.proofs.Margins.Headline.{headline-of, completes-of}
use Rattle.signal_commands.proofs.margin.command.margin.Goals as goal

pub returns-clause-headline : goal.returns-clause-headline
returns-clause-headline g c =
    headline-of (map string_bytes c.args.words.now) (g.F.Folder.state c.args.folder.now) (g.F.Folder.state c.measure_and_tell.new.folder)
    (named c.args.names.now) c.measure_and_tell.result c.measure_and_tell.ensures

pub returns-clause-completes : goal.returns-clause-completes
returns-clause-completes g c =
    completes-of (map string_bytes c.args.words.now) (g.F.Folder.state c.args.folder.now) (g.F.Folder.state c.measure_and_tell.new.folder)
    (named c.args.names.now) c.measure_and_tell.result c.measure_and_tell.ensures
