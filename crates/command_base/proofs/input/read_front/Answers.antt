use Rattle.command_base.proofs.Reading.{reads-fail}
use Rattle.command_base.proofs.input.read_front.Goals as goal

pub returns-in-Err-clause-fails : goal.returns-in-Err-clause-fails
returns-in-Err-clause-fails g c =
    reads-fail (g.F.Folder.state c.args.folder.now) (g.F.Folder.state c.read_at.new.self) c.args.name.now c.in-Err.fault
    c.in-Err.ensures.cause c.in-Err.ensures.spared
