use Rattle.command_base.proofs.Names.{sym, subst, Tells}
use Rattle.command_base.proofs.Saying.{tells-fault}
use Rattle.command_base.proofs.telling.tell.Goals as goal

pub returns-in-Err : goal.returns-in-Err
returns-in-Err g c =
    let old = g.F.Folder.state c.args.folder.now in
    let new = g.F.Folder.state c.say.new.self in
    subst (λ s. Tells old new c.args.line.now c.args.answer s) (sym c.fault_status.ensures)
    (tells-fault old new c.args.line.now c.args.answer c.in-Err.fault c.in-Err.ensures.only c.in-Err.ensures.err c.in-Err.ensures.cause
    c.in-Err.ensures.spared)
