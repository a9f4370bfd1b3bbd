use Rattle.stations.proofs.Names.{◌≡◌, ◌∙◌, subst, OnErr, OnOk, Appended, FolderState, PartlyAppended}
use Rattle.line_texts.specs.LineText.{chance_line}
use Rattle.stations.proofs.trace.append_chance.Goals as goal

pub returns : goal.returns
returns g c =
    let old : FolderState = g.F.Folder.state c.args.folder.now in
    let new : FolderState = g.F.Folder.state c.append.new.self in
    let same : c.as_slice.result.now ≡ chance_line c.args.turn c.args.role = c.as_slice.ensures.items ∙ c.line_of-text.ensures in
    record {
      ok = subst (λ piece. OnOk c.append.result (Appended old new c.args.name.now piece)) same c.append.ensures.ok;
      err = subst (λ piece. OnErr c.append.result (PartlyAppended old new c.args.name.now piece)) same c.append.ensures.err;
      only = c.append.ensures.only;
      cause = c.append.ensures.cause;
      stand = c.append.ensures.stand;
      spared = c.append.ensures.spared;
      came = c.append.ensures.came;
    }
