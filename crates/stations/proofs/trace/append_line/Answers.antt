use Rattle.stations.proofs.Names.{OnOk, OnErr, ◌∙◌, subst, Appended, PartlyAppended}
use Rattle.stations.proofs.trace.append_line.Goals as goal

pub returns-clause-ok : goal.returns-clause-ok
returns-clause-ok g c =
    subst (λ piece. OnOk c.append.result
    (Appended (g.F.Folder.state c.args.folder.now) (g.F.Folder.state c.append.new.self) c.args.name.now piece))
    (c.as_slice.ensures.items ∙ c.write_line.ensures.text) c.append.ensures.ok

pub returns-clause-err : goal.returns-clause-err
returns-clause-err g c =
    subst (λ piece. OnErr c.append.result
    (PartlyAppended (g.F.Folder.state c.args.folder.now) (g.F.Folder.state c.append.new.self) c.args.name.now piece))
    (c.as_slice.ensures.items ∙ c.write_line.ensures.text) c.append.ensures.err
