use Rattle.signal_commands.proofs.Names.{◌∙◌, ℕ, List, [], refl, sym, subst, take, rules, stop-earlier, ReadTo-none, ReadTo}
use Rattle.signal_commands.proofs.Names.{RECORDING_LIMIT, Read, OnlyReads-trans, CountsStand-trans, FolderState, OnlyReads, IsBadHeader}
use Rattle.signal_commands.proofs.Names.{FILE_LIMIT, one_unread, inputs_of}
use Rattle.command_base.proofs.Reading.{within-earlier}
use Rattle.recordings.specs.declared.rate.Rate.TheVariants as rates
use Rattle.command_base.proofs.HeaderRead.{header-octets}
use Rattle.signal_commands.specs.Margins.Ends.EndsOwn.{is_other}
use Rattle.signal_commands.proofs.Margins.Looking.{rec-refused, file-refused, rec-fails, file-fails, refused-counts}
use Rattle.signal_commands.specs.Margins.Words.{named}
use Rattle.signal_commands.proofs.margin.opening.open_inputs.Goals as goal

pub returns-in-Err-clause-err : goal.returns-in-Err-clause-err
returns-in-Err-clause-err g c =
    rec-refused (g.F.Folder.state c.args.folder.now) (g.F.Folder.state c.within_limit.new.folder)
    (named c.args.names.now) c.in-Err.stop c.in-Err.ensures.refused

pub returns-in-Err-within_limit-clause-err : goal.returns-in-Err-within_limit-clause-err
returns-in-Err-within_limit-clause-err g c =
    file-refused _ (g.F.Folder.state c.within_limit.new.folder) (g.F.Folder.state c.within_limit-2.new.folder) (named c.args.names.now)
    c.in-Err-within_limit.stop c.within_limit.ensures.reads c.in-Ok.ensures.stand c.in-Ok.ensures.within
    c.in-Err-within_limit.ensures.refused

pub returns-in-Err-clause-reads : goal.returns-in-Err-clause-reads
returns-in-Err-clause-reads g c = c.in-Err.ensures.reads

pub returns-in-Err-clause-counts : goal.returns-in-Err-clause-counts
returns-in-Err-clause-counts g c =
    let old : FolderState = g.F.Folder.state c.args.folder.now in
    let new : FolderState = g.F.Folder.state c.within_limit.new.folder in
    refused-counts old new (named c.args.names.now) c.args.names.now.rec.now RECORDING_LIMIT 1 c.in-Err.stop
    (rec-fails old new (named c.args.names.now)) c.in-Err.ensures.refused

pub returns-in-Err-within_limit-clause-reads : goal.returns-in-Err-within_limit-clause-reads
returns-in-Err-within_limit-clause-reads g c = OnlyReads-trans c.in-Ok.ensures.reads c.in-Err-within_limit.ensures.reads

pub returns-in-Err-within_limit-clause-counts : goal.returns-in-Err-within_limit-clause-counts
returns-in-Err-within_limit-clause-counts g c =
    let mid : FolderState = g.F.Folder.state c.within_limit.new.folder in
    let new : FolderState = g.F.Folder.state c.within_limit-2.new.folder in
    stop-earlier (g.F.Folder.state c.args.folder.now) mid new (inputs_of (named c.args.names.now)) [] c.in-Err-within_limit.stop
    c.in-Ok.ensures.stand (refused-counts mid new (named c.args.names.now) c.args.names.now.file.now FILE_LIMIT 2 c.in-Err-within_limit.stop
    (file-fails mid new (named c.args.names.now)) c.in-Err-within_limit.ensures.refused)

pub returns-in-Ok-read_header : goal.returns-in-Ok-read_header
returns-in-Ok-read_header g c = record {
  ok =
      let rec : List ℕ = c.args.names.now.rec.now in
      let old : FolderState = g.F.Folder.state c.args.folder.now in
      let n2 : FolderState = g.F.Folder.state c.within_limit-2.new.folder in
      let looked : OnlyReads old n2 = OnlyReads-trans c.within_limit.ensures.reads c.within_limit-2.ensures.reads in
      let none : ReadTo old n2 rec RECORDING_LIMIT 0 [] =
      ReadTo-none old n2 rec RECORDING_LIMIT c.in-Ok.ensures.within looked.goes_on (looked.names rec) in
      record {
        rec_within = c.in-Ok.ensures.within;
        file_within = within-earlier old _ c.args.names.now.file.now FILE_LIMIT c.within_limit.ensures.reads
            c.in-Ok-within_limit.ensures.within;
        header = λ told. sym c.in-Ok-read_header.ensures.ok
            ∙ header-octets old _ rec c.in-Ok-read_piece.count
            (take c.in-Ok-read_piece.count c.read_piece.new.piece) c.in-Ok-read_piece.ensures.bound
            (c.in-Ok-read_piece.ensures.more old [] none) (c.in-Ok-read_piece.ensures.end old [] none) told;
      };
  err = search rules;
  reads = OnlyReads-trans (OnlyReads-trans c.in-Ok.ensures.reads c.in-Ok-within_limit.ensures.reads) c.in-Ok-read_piece.ensures.reads;
  counts = CountsStand-trans (CountsStand-trans c.in-Ok.ensures.stand c.in-Ok-within_limit.ensures.stand) c.in-Ok-read_piece.ensures.stand;
}

pub returns-in-Err-read_header : goal.returns-in-Err-read_header
returns-in-Err-read_header g c = record {
  ok = search rules;
  err =
      let rec : List ℕ = c.args.names.now.rec.now in
      let old : FolderState = g.F.Folder.state c.args.folder.now in
      let n1 : FolderState = g.F.Folder.state c.within_limit.new.folder in
      let n2 : FolderState = g.F.Folder.state c.within_limit-2.new.folder in
      let n3 : FolderState = g.F.Folder.state c.read_piece.new.folder in
      let looked : OnlyReads old n2 = OnlyReads-trans c.within_limit.ensures.reads c.within_limit-2.ensures.reads in
      let none : ReadTo old n2 rec RECORDING_LIMIT 0 [] =
      ReadTo-none old n2 rec RECORDING_LIMIT c.in-Ok.ensures.within looked.goes_on (looked.names rec) in
      is_other c.in-Err-read_header.at refl
      (within-earlier old n1 c.args.names.now.file.now FILE_LIMIT c.within_limit.ensures.reads c.in-Ok-within_limit.ensures.within)
      (record {
        within = c.in-Ok.ensures.within;
        bad = λ told. subst (λ (xs : List ℕ). IsBadHeader rates.Trellis xs c.in-Err-read_header.at)
            (header-octets old n3 rec c.in-Ok-read_piece.count
            (take c.in-Ok-read_piece.count c.read_piece.new.piece) c.in-Ok-read_piece.ensures.bound
            (c.in-Ok-read_piece.ensures.more old [] none) (c.in-Ok-read_piece.ensures.end old [] none) told)
            c.in-Err-read_header.ensures.err;
      });
  reads = OnlyReads-trans (OnlyReads-trans c.in-Ok.ensures.reads c.in-Ok-within_limit.ensures.reads) c.in-Ok-read_piece.ensures.reads;
  counts =
      (tt, CountsStand-trans (CountsStand-trans c.in-Ok.ensures.stand c.in-Ok-within_limit.ensures.stand) c.in-Ok-read_piece.ensures.stand);
}

pub returns-in-Err-read_piece : goal.returns-in-Err-read_piece
returns-in-Err-read_piece g c = record {
  ok = search rules;
  err =
      one_unread c.in-Ok.ensures.within
      (within-earlier (g.F.Folder.state c.args.folder.now) (g.F.Folder.state c.within_limit.new.folder) c.args.names.now.file.now FILE_LIMIT
      c.in-Ok.ensures.reads c.in-Ok-within_limit.ensures.within);
  reads = OnlyReads-trans (OnlyReads-trans c.in-Ok.ensures.reads c.in-Ok-within_limit.ensures.reads) c.in-Err-read_piece.ensures.reads;
  counts =
      let mid : FolderState = g.F.Folder.state c.within_limit-2.new.folder in
      let new : FolderState = g.F.Folder.state c.read_piece.new.folder in
      stop-earlier (g.F.Folder.state c.args.folder.now) mid new (inputs_of (named c.args.names.now)) [] (Read c.in-Err-read_piece.fault)
      (CountsStand-trans c.in-Ok.ensures.stand c.in-Ok-within_limit.ensures.stand)
      (rec-fails mid new (named c.args.names.now) c.in-Err-read_piece.fault c.in-Err-read_piece.ensures.fails);
}
