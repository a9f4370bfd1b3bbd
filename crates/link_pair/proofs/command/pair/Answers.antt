use Rattle.std.specs.Prelude.{map, string_bytes}
use Rattle.link_pair.proofs.Names.{named}
use Rattle.link_pair.proofs.command.pair.Goals as goal

pub returns-clause-headline : goal.returns-clause-headline
returns-clause-headline g c =
    c.answers_keep_the_headline.ensures (map string_bytes c.args.words.now) (g.F.Folder.state c.args.folder.now)
    (g.F.Folder.state c.pair_and_tell.new.folder) (named c.args.names.now) c.pair_and_tell.result c.pair_and_tell.ensures

pub returns-clause-completes : goal.returns-clause-completes
returns-clause-completes g c =
    c.right_pairs_are_done.ensures (map string_bytes c.args.words.now) (g.F.Folder.state c.args.folder.now)
    (g.F.Folder.state c.pair_and_tell.new.folder) (named c.args.names.now) c.pair_and_tell.result c.pair_and_tell.ensures
