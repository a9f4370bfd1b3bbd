use Rattle.line_tap.proofs.Cited.{[], ◌∷◌, refl, stop-earlier, ReadTo-kept, Read, named, recordings_of, OnlyReads-trans, CountsStand-trans}
use Rattle.line_tap.specs.declared.limits.TheConstants.{TAP_LIMIT}
use Rattle.line_tap.proofs.Causes.{read-among}
use Rattle.line_tap.proofs.pieces.read_pieces.Goals as goal

pub read_into-requires : goal.read_into-requires
read_into-requires g c = c.requires

pub read_into-requires-2 : goal.read_into-requires-2
read_into-requires-2 g c = c.requires

pub returns-in-Err : goal.returns-in-Err
returns-in-Err g c = record {
  orig = λ start octets h. tt;
  answ = λ start octets h. tt;
  orig_end = λ start octets h. tt;
  answ_end = λ start octets h. tt;
  orig_bound = tt;
  answ_bound = tt;
  orig_within = tt;
  answ_within = tt;
  orig_kept = c.in-Err.ensures.kept;
  answ_kept = refl;
  reads = c.in-Err.ensures.reads;
  stand = tt;
  fails =
      read-among (g.F.Folder.state c.args.folder.now) (g.F.Folder.state c.read_into.new.folder) [] c.args.names.now.rec_o.now
      (c.args.names.now.rec_a.now ∷ []) c.in-Err.fault c.in-Err.ensures.fails;
}

pub returns-in-Ok-read_into : goal.returns-in-Ok-read_into
returns-in-Ok-read_into g c = record {
  orig = λ start octets h.
      ReadTo-kept start (g.F.Folder.state c.read_into.new.folder) (g.F.Folder.state c.read_into-2.new.folder) c.args.names.now.rec_o.now
      TAP_LIMIT _ _ (c.in-Ok.ensures.more start octets h) c.in-Ok-read_into.ensures.reads.goes_on
      (c.in-Ok-read_into.ensures.reads.names c.args.names.now.rec_o.now);
  answ = λ start octets h. c.in-Ok-read_into.ensures.more start octets
      (ReadTo-kept start (g.F.Folder.state c.args.folder.now) (g.F.Folder.state c.read_into.new.folder) c.args.names.now.rec_a.now
      TAP_LIMIT _ _ h c.in-Ok.ensures.reads.goes_on (c.in-Ok.ensures.reads.names c.args.names.now.rec_a.now));
  orig_end = c.in-Ok.ensures.end;
  answ_end = λ start octets h. c.in-Ok-read_into.ensures.end start octets
      (ReadTo-kept start (g.F.Folder.state c.args.folder.now) (g.F.Folder.state c.read_into.new.folder) c.args.names.now.rec_a.now
      TAP_LIMIT _ _ h c.in-Ok.ensures.reads.goes_on (c.in-Ok.ensures.reads.names c.args.names.now.rec_a.now));
  orig_bound = c.in-Ok.ensures.bound;
  answ_bound = c.in-Ok-read_into.ensures.bound;
  orig_within = c.in-Ok.ensures.within;
  answ_within = c.in-Ok-read_into.ensures.within;
  orig_kept = c.in-Ok.ensures.kept;
  answ_kept = c.in-Ok-read_into.ensures.kept;
  reads = OnlyReads-trans c.in-Ok.ensures.reads c.in-Ok-read_into.ensures.reads;
  stand = CountsStand-trans c.in-Ok.ensures.stand c.in-Ok-read_into.ensures.stand;
  fails = tt;
}

pub returns-in-Err-read_into : goal.returns-in-Err-read_into
returns-in-Err-read_into g c = record {
  orig = λ start octets h. tt;
  answ = λ start octets h. tt;
  orig_end = λ start octets h. tt;
  answ_end = λ start octets h. tt;
  orig_bound = tt;
  answ_bound = tt;
  orig_within = tt;
  answ_within = tt;
  orig_kept = c.in-Ok.ensures.kept;
  answ_kept = c.in-Err-read_into.ensures.kept;
  reads = OnlyReads-trans c.in-Ok.ensures.reads c.in-Err-read_into.ensures.reads;
  stand = tt;
  fails =
      stop-earlier (g.F.Folder.state c.args.folder.now) (g.F.Folder.state c.read_into.new.folder)
      (g.F.Folder.state c.read_into-2.new.folder)
      (recordings_of (named c.args.names.now)) [] (Read c.in-Err-read_into.fault) c.in-Ok.ensures.stand
      (read-among (g.F.Folder.state c.read_into.new.folder) (g.F.Folder.state c.read_into-2.new.folder) (c.args.names.now.rec_o.now ∷ [])
      c.args.names.now.rec_a.now [] c.in-Err-read_into.fault c.in-Err-read_into.ensures.fails);
}
