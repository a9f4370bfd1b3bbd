use Rattle.command_base.proofs.Names.{bits_of}
use Rattle.command_base.proofs.Hearing.{hears-partly}
use Rattle.command_base.proofs.listener.Listener.hear.Goals as goal

pub returns-clause-err : goal.returns-clause-err
returns-clause-err g c =
    hears-partly (g.F.Folder.state c.args.folder.now) (g.F.Folder.state c.hear_octets.new.folder) c.args.self.now c.hear_octets.new.self
    (bits_of c.args.octets.now) c.hear_octets.result c.hear_octets.ensures.hears
