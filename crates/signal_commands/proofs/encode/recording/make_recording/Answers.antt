use Rattle.signal_commands.proofs.Names.{[], ◌∷◌, write-earlier, end-earlier, OnlyOutput-reads, OnlyOutput-trans, CountsStand-trans}
use Rattle.signal_commands.proofs.Names.{FolderState}
use Rattle.signal_commands.specs.Encoding.Words.{named}
use Rattle.signal_commands.proofs.Encoding.Making.{create-part, not-begun, refused-counts, writes-only}
use Rattle.signal_commands.proofs.encode.recording.make_recording.Goals as goal

pub returns-in-Err : goal.returns-in-Err
returns-in-Err g c = record {
  ends =
      not-begun (g.F.Folder.state c.args.folder.now) (g.F.Folder.state c.within_limit.new.folder)
      (named c.args.names.now) c.in-Err.stop c.in-Err.ensures.reads c.in-Err.ensures.refused;
  only = OnlyOutput-reads c.args.names.now.rec.now c.in-Err.ensures.reads;
  counts =
      refused-counts (g.F.Folder.state c.args.folder.now) (g.F.Folder.state c.within_limit.new.folder) (named c.args.names.now)
      c.in-Err.stop c.in-Err.ensures.refused;
}

pub returns-in-Err-create_output : goal.returns-in-Err-create_output
returns-in-Err-create_output g c = record {
  ends =
      let old : FolderState = g.F.Folder.state c.args.folder.now in let mid : FolderState = g.F.Folder.state c.within_limit.new.folder in
      let new : FolderState = g.F.Folder.state c.create_output.new.folder in (
        c.in-Ok.ensures.within,
        create-part old mid new (named c.args.names.now) c.in-Ok.ensures.within c.in-Ok.ensures.reads c.in-Err-create_output.ensures.err,
      );
  only =
      writes-only (g.F.Folder.state c.args.folder.now) (g.F.Folder.state c.within_limit.new.folder)
      (g.F.Folder.state c.create_output.new.folder) (named c.args.names.now) c.in-Ok.ensures.reads c.in-Err-create_output.ensures.only;
  counts =
      write-earlier (g.F.Folder.state c.args.folder.now) (g.F.Folder.state c.within_limit.new.folder)
      (g.F.Folder.state c.create_output.new.folder)
      (c.args.names.now.rec.now ∷ []) c.in-Err-create_output.fault c.in-Ok.ensures.stand c.in-Err-create_output.ensures.fails;
}

pub returns : goal.returns
returns g c = record {
  ends =
      c.record_file.ensures.ends (g.F.Folder.state c.args.folder.now) (record {
        within = c.in-Ok.ensures.within;
        only = writes-only (g.F.Folder.state c.args.folder.now) (g.F.Folder.state c.within_limit.new.folder)
            (g.F.Folder.state c.create_output.new.folder) (named c.args.names.now) c.in-Ok.ensures.reads c.in-Ok-create_output.ensures.only;
        empty = c.in-Ok-create_output.ensures.ok;
      });
  only =
      OnlyOutput-trans c.args.names.now.rec.now
      (writes-only (g.F.Folder.state c.args.folder.now) (g.F.Folder.state c.within_limit.new.folder)
      (g.F.Folder.state c.create_output.new.folder) (named c.args.names.now) c.in-Ok.ensures.reads c.in-Ok-create_output.ensures.only)
      c.record_file.ensures.only;
  counts =
      end-earlier (g.F.Folder.state c.args.folder.now) (g.F.Folder.state c.create_output.new.folder)
      (g.F.Folder.state c.record_file.new.folder) (c.args.names.now.file.now ∷ []) (c.args.names.now.rec.now ∷ []) c.record_file.result
      (CountsStand-trans c.in-Ok.ensures.stand c.in-Ok-create_output.ensures.stand) c.record_file.ensures.counts;
}
