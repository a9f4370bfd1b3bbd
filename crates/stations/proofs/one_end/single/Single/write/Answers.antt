use Rattle.stations.proofs.Names.{[], ◌∷◌, sym, subst, FolderState, Appended, PartlyAppended, IsWriting, FaultCounts}
use Rattle.stations.proofs.OneEnd.Folders.{write-fault, write-fault-counts}
use Rattle.stations.proofs.one_end.single.Single.write.Goals as goal

pub returns-in-Ok : goal.returns-in-Ok
returns-in-Ok g c = record {
  ok = subst (Appended (g.F.Folder.state c.args.folder.now) (g.F.Folder.state c.append_line.new.folder) c.args.trace.now)
      c.peer_line-line.ensures c.in-Ok.ensures.ok;
  err = tt;
  only = c.append_line.ensures.only;
  counts = c.in-Ok.ensures.stand;
  write = tt;
  came = c.append_line.ensures.came;
}

pub returns-in-Err : goal.returns-in-Err
returns-in-Err g c =
    let old : FolderState = g.F.Folder.state c.args.folder.now in
    let new : FolderState = g.F.Folder.state c.append_line.new.folder in
    record {
      ok = tt;
      err = subst (PartlyAppended old new c.args.trace.now) c.peer_line-line.ensures c.in-Err.ensures.err;
      only = c.append_line.ensures.only;
      counts = subst (FaultCounts old new [] (c.args.trace.now ∷ [])) (sym c.folder_fault.ensures)
          (write-fault-counts old new c.args.trace.now c.in-Err.fault c.in-Err.ensures.cause c.in-Err.ensures.spared);
      write = subst IsWriting (sym c.folder_fault.ensures) (write-fault c.in-Err.fault);
      came = c.append_line.ensures.came;
    }
