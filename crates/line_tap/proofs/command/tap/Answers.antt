use Rattle.std.specs.Prelude.{map, string_bytes}
use Rattle.line_tap.proofs.Cited.{named}
use Rattle.line_tap.proofs.command.tap.Goals as goal

pub returns-clause-headline : goal.returns-clause-headline
returns-clause-headline g c =
    c.answers_keep_the_headline.ensures (map string_bytes c.args.words.now) (g.F.Folder.state c.args.folder.now)
    (g.F.Folder.state c.tap_and_tell.new.folder) (named c.args.names.now) c.tap_and_tell.result c.tap_and_tell.ensures

pub returns-clause-completes : goal.returns-clause-completes
returns-clause-completes g c =
    c.right_taps_are_told.ensures (map string_bytes c.args.words.now) (g.F.Folder.state c.args.folder.now)
    (g.F.Folder.state c.tap_and_tell.new.folder) (named c.args.names.now) c.tap_and_tell.result c.tap_and_tell.ensures
