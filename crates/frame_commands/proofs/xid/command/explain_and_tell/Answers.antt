use Rattle.frame_commands.proofs.Names.{◌∙◌, ℕ, List, map, string_bytes, subst, Tells, Done, FolderState}
use Rattle.frame_commands.proofs.Explaining.Completes.{explained, not-explained}
use Rattle.frame_commands.proofs.xid.command.explain_and_tell.Goals as goal

pub returns-in-Ok : goal.returns-in-Ok
returns-in-Ok g c =
    let old : FolderState = g.F.Folder.state c.args.folder.now in let new : FolderState = g.F.Folder.state c.tell.new.folder in
    explained (map string_bytes c.args.words.now) old new c.args.digits.now c.in-Ok.offer c.tell.result c.in-Ok.ensures.ok
    (subst (λ (line : List ℕ). Tells old new line Done c.tell.result) (c.as_slice.ensures.items
    ∙ c.offer_line.ensures) c.tell.ensures)

pub returns-in-Err : goal.returns-in-Err
returns-in-Err g c =
    not-explained (map string_bytes c.args.words.now) (g.F.Folder.state c.args.folder.now)
    (g.F.Folder.state c.tell_stop.new.folder) c.args.digits.now c.in-Err.answer c.tell_stop.result c.in-Err.ensures.refused
    c.tell_stop.ensures
