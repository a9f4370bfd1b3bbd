use Rattle.run_commands.proofs.Names.{◌∙◌, ℕ, List, subst, map, string_bytes, Tells, Done, FolderState}
use Rattle.run_commands.proofs.Soaking.Headline.{soaked, stopped}
use Rattle.run_commands.proofs.soak.command.soak_and_tell.Goals as goal

pub returns-in-Ok : goal.returns-in-Ok
returns-in-Ok g c =
    let old : FolderState = g.F.Folder.state c.args.folder.now in let new : FolderState = g.F.Folder.state c.tell.new.folder in
    soaked (map string_bytes c.args.words.now) old new c.args.seed c.in-Ok.counts c.tell.result c.in-Ok.ensures
    (subst (λ (line : List ℕ). Tells old new line Done c.tell.result) (c.as_slice.ensures.items ∙ c.soak_line.ensures) c.tell.ensures)

pub returns-in-Err : goal.returns-in-Err
returns-in-Err g c =
    stopped (map string_bytes c.args.words.now) (g.F.Folder.state c.args.folder.now)
    (g.F.Folder.state c.tell_stop.new.folder) c.args.seed c.in-Err.stop c.tell_stop.result c.in-Err.ensures c.tell_stop.ensures
