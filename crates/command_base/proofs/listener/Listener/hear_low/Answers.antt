use Rattle.command_base.proofs.Names.{low_bits}
use Rattle.command_base.proofs.Hearing.{hears-partly}
use Rattle.command_base.proofs.listener.Listener.hear_low.Goals as goal

pub returns-clause-err : goal.returns-clause-err
returns-clause-err g c =
    hears-partly (g.F.Folder.state c.args.folder.now) (g.F.Folder.state c.hear_some.new.folder) c.args.self.now c.hear_some.new.self
    (low_bits c.args.count c.args.octet) c.hear_some.result c.hear_some.ensures.hears
