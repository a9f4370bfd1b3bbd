use Rattle.command_base.proofs.Creating.{write-fails}
use Rattle.command_base.proofs.output.append_output.Goals as goal

pub returns-in-Err-clause-fails : goal.returns-in-Err-clause-fails
returns-in-Err-clause-fails g c =
    write-fails (g.F.Folder.state c.args.folder.now) (g.F.Folder.state c.append.new.self) c.args.name.now c.in-Err.fault
    c.in-Err.ensures.cause c.in-Err.ensures.spared
