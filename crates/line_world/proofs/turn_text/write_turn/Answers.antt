use Rattle.line_world.proofs.Cited.{written}
use Rattle.line_world.proofs.Serving.{writing-fault, trace-counts}
use Rattle.line_world.proofs.turn_text.write_turn.Goals as goal

pub returns-in-Err-clause-counts : goal.returns-in-Err-clause-counts
returns-in-Err-clause-counts g c =
    trace-counts (g.F.Folder.state c.args.folder.now) (g.F.Folder.state c.append_turn.new.folder) (written c.args.names.now)
    c.folder_fault.result c.in-Err.fault c.folder_fault.ensures c.in-Err.ensures.cause c.in-Err.ensures.spared

pub returns-in-Err-clause-write : goal.returns-in-Err-clause-write
returns-in-Err-clause-write g c = writing-fault c.folder_fault.result c.in-Err.fault c.folder_fault.ensures
