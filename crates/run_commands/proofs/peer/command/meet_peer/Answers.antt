use Rattle.run_commands.proofs.Names.{stop-earlier, end-earlier, OnlyPuts-reads, OnlyPuts-trans, CountsStand-trans, FolderState, Names}
use Rattle.run_commands.proofs.Names.{named, inputs_of, outputs_of, FILE_LIMIT}
use Rattle.outside_calls.proofs.Steps.{OnlyReads-trans, FaultsStand-trans}
use Rattle.command_base.proofs.Reading.{within-earlier}
use Rattle.run_commands.proofs.Peering.Reaching.{bits-fail, file-fails}
use Rattle.run_commands.proofs.Peering.Starting.{bits-refused, file-refused, refused-counts}
use Rattle.run_commands.proofs.peer.command.meet_peer.Goals as goal

-- ---- the bits are not taken

pub returns-in-Err-clause-ends : goal.returns-in-Err-clause-ends
returns-in-Err-clause-ends g c =
    bits-refused (g.F.Folder.state c.args.folder.now) (g.F.Folder.state c.within_limit.new.folder) (named c.args.words.now)
    c.in-Err.stop c.in-Err.ensures.reads c.in-Err.ensures.refused

pub returns-in-Err-clause-only : goal.returns-in-Err-clause-only
returns-in-Err-clause-only g c = OnlyPuts-reads (g.F.Folder.state c.args.folder.now) (g.F.Folder.state c.within_limit.new.folder)
    (outputs_of (named c.args.words.now)) c.in-Err.ensures.reads

pub returns-in-Err-clause-counts : goal.returns-in-Err-clause-counts
returns-in-Err-clause-counts g c =
    let n : Names = named c.args.words.now in
    let old : FolderState = g.F.Folder.state c.args.folder.now in
    let new : FolderState = g.F.Folder.state c.within_limit.new.folder in
    refused-counts old new n n.bits 3 c.in-Err.stop (bits-fail old new n) c.in-Err.ensures.refused

-- ---- the file is not taken

pub returns-in-Err-within_limit : goal.returns-in-Err-within_limit
returns-in-Err-within_limit g c = record {
  ends =
      file-refused (g.F.Folder.state c.args.folder.now) (g.F.Folder.state c.within_limit.new.folder)
      (g.F.Folder.state c.within_limit-2.new.folder) (named c.args.words.now) c.in-Err-within_limit.stop c.in-Ok.ensures.reads
      c.in-Ok.ensures.stand c.in-Err-within_limit.ensures.reads c.in-Ok.ensures.within c.in-Err-within_limit.ensures.refused;
  only =
      OnlyPuts-reads (g.F.Folder.state c.args.folder.now) (g.F.Folder.state c.within_limit-2.new.folder)
      (outputs_of (named c.args.words.now))
      (OnlyReads-trans c.in-Ok.ensures.reads c.in-Err-within_limit.ensures.reads);
  counts =
      let n : Names = named c.args.words.now in
      let old : FolderState = g.F.Folder.state c.args.folder.now in
      let mid : FolderState = g.F.Folder.state c.within_limit.new.folder in
      let new : FolderState = g.F.Folder.state c.within_limit-2.new.folder in
      stop-earlier old mid new (inputs_of n) (outputs_of n) c.in-Err-within_limit.stop c.in-Ok.ensures.stand
      (refused-counts mid new n n.file 2 c.in-Err-within_limit.stop (file-fails mid new n) c.in-Err-within_limit.ensures.refused);
}

-- ---- there is no memory

pub returns-in-Err-new : goal.returns-in-Err-new
returns-in-Err-new g c = record {
  ends =
      let n : Names = named c.args.words.now in
      let reads = OnlyReads-trans c.in-Ok.ensures.reads c.in-Ok-within_limit.ensures.reads in (
        reads.names,
        c.in-Ok.ensures.within,
        within-earlier _ _ n.file FILE_LIMIT c.in-Ok.ensures.reads c.in-Ok-within_limit.ensures.within,
      );
  only =
      OnlyPuts-reads (g.F.Folder.state c.args.folder.now) (g.F.Folder.state c.within_limit-2.new.folder)
      (outputs_of (named c.args.words.now))
      (OnlyReads-trans c.in-Ok.ensures.reads c.in-Ok-within_limit.ensures.reads);
  counts = FaultsStand-trans c.in-Ok.ensures.stand.faults c.in-Ok-within_limit.ensures.stand.faults;
}

pub returns : goal.returns
returns g c =
    let n : Names = named c.args.words.now in
    record {
      ends =
          c.run_single.ensures.ends _ (record {
            bits_within = c.in-Ok.ensures.within;
            file_within = within-earlier _ _ n.file FILE_LIMIT c.in-Ok.ensures.reads c.in-Ok-within_limit.ensures.within;
            reads = OnlyReads-trans c.in-Ok.ensures.reads c.in-Ok-within_limit.ensures.reads;
            stand = CountsStand-trans c.in-Ok.ensures.stand c.in-Ok-within_limit.ensures.stand;
          });
      only =
          OnlyPuts-trans _ _ _ (outputs_of n)
          (OnlyPuts-reads _ _ (outputs_of n) (OnlyReads-trans c.in-Ok.ensures.reads c.in-Ok-within_limit.ensures.reads))
          c.run_single.ensures.only;
      counts =
          end-earlier _ _ _ (inputs_of n) (outputs_of n) c.run_single.result
          (CountsStand-trans c.in-Ok.ensures.stand c.in-Ok-within_limit.ensures.stand) c.run_single.ensures.counts;
    }
