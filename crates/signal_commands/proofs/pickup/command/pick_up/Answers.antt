use Rattle.signal_commands.proofs.Names.{[], ◌∷◌, end-earlier, OnlyOutputs-reads, OnlyOutputs-trans}
use Rattle.signal_commands.proofs.PickingUp.Parts.{not-opened}
use Rattle.signal_commands.proofs.pickup.command.pick_up.Goals as goal

pub returns-in-Err : goal.returns-in-Err
returns-in-Err g c = record {
  ends =
      not-opened (g.F.Folder.state c.args.folder.now)
      (g.F.Folder.state c.open_recording.new.folder) c.args.rec.now c.in-Err.stop c.open_recording.ensures.reads c.in-Err.ensures.err;
  only = OnlyOutputs-reads [] c.open_recording.ensures.reads;
  counts = c.in-Err.ensures.counts [];
}

pub returns-in-Ok : goal.returns-in-Ok
returns-in-Ok g c = record {
  ends = c.pick_up_samples.ensures.ends (g.F.Folder.state c.args.folder.now) c.in-Ok.ensures.ok;
  only = OnlyOutputs-trans [] (OnlyOutputs-reads [] c.open_recording.ensures.reads) c.pick_up_samples.ensures.only;
  counts =
      end-earlier (g.F.Folder.state c.args.folder.now) (g.F.Folder.state c.open_recording.new.folder)
      (g.F.Folder.state c.pick_up_samples.new.folder)
      (c.args.rec.now ∷ []) [] c.pick_up_samples.result c.in-Ok.ensures.ok.stand c.pick_up_samples.ensures.counts;
}
