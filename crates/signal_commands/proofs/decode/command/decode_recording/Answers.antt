use Rattle.signal_commands.proofs.Names.{[], ◌∷◌, end-earlier, OnlyOutput-reads, OnlyOutput-trans, named}
use Rattle.signal_commands.proofs.Decoding.Steps.{not-opened}
use Rattle.signal_commands.proofs.decode.command.decode_recording.Goals as goal

pub returns-in-Err : goal.returns-in-Err
returns-in-Err g c = record {
  ends =
      not-opened (g.F.Folder.state c.args.folder.now) (g.F.Folder.state c.open_recording.new.folder)
      (named c.args.names.now) c.in-Err.stop c.open_recording.ensures.reads c.in-Err.ensures.err;
  only = OnlyOutput-reads c.args.names.now.file.now c.open_recording.ensures.reads;
  counts = c.in-Err.ensures.counts (c.args.names.now.file.now ∷ []);
}

pub returns-in-Ok : goal.returns-in-Ok
returns-in-Ok g c = record {
  ends = c.decode_file.ensures.ends (g.F.Folder.state c.args.folder.now) c.in-Ok.ensures.ok;
  only =
      OnlyOutput-trans c.args.names.now.file.now (OnlyOutput-reads c.args.names.now.file.now c.open_recording.ensures.reads)
      c.decode_file.ensures.only;
  counts =
      end-earlier (g.F.Folder.state c.args.folder.now) (g.F.Folder.state c.open_recording.new.folder)
      (g.F.Folder.state c.decode_file.new.folder)
      (c.args.names.now.rec.now ∷ []) (c.args.names.now.file.now ∷ []) c.decode_file.result c.in-Ok.ensures.ok.stand
      c.decode_file.ensures.counts;
}
