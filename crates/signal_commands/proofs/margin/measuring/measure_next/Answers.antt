use Rattle.signal_commands.proofs.Names.{◌≡◌, ◌∙◌, ℕ, ◌+◌, ◌*◌, List, [], ◌++◌, min, length, take, refl, ap, arith, rules, length-take}
use Rattle.signal_commands.proofs.Names.{stop-earlier, ReadTo-kept, ReadTo, RECORDING_LIMIT, Read, OnlyReads-trans, CountsStand-trans}
use Rattle.signal_commands.proofs.Names.{FolderState, header_of, samples_in, FILE_LIMIT, is_misfit, one_unread, MarginNames, inputs_of}
use Rattle.signal_commands.specs.Margins.Words.{named}
use Rattle.signal_commands.proofs.Margins.Looking.{rec-fails, file-fails}
use Rattle.signal_commands.proofs.Margins.Measures.{misfit, measured-more, ended}
use Rattle.signal_commands.proofs.margin.measuring.measure_next.Goals as goal

pub returns-then-read-count-clause-err : goal.returns-then-read-count-clause-err
returns-then-read-count-clause-err g c start mode h =
    let n : MarginNames = named c.args.names.now in
    let mid : FolderState = g.F.Folder.state c.read_piece.new.folder in
    let front : List ℕ = header_of mode ++ h.content in
    let here : ReadTo start mid n.rec RECORDING_LIMIT (8 + 8 * c.args.at) front =
    ReadTo-kept start _ mid n.rec RECORDING_LIMIT (8 + 8 * c.args.at) front h.rec.read c.read_piece.ensures.reads.goes_on
    (c.read_piece.ensures.reads.names n.rec) in
    let least : c.min.result ≡ min c.in-Ok-read_piece.read (8 * c.in-Ok.count) = c.min.ensures in
    is_misfit (8 + 8 * c.args.at + c.min.result) refl
    (misfit start mid _ n mode c.args.at c.in-Ok.count c.in-Ok-read_piece.read (8 + 8 * c.args.at + c.min.result) h.octets front
    (take c.in-Ok.count c.read_piece.new.piece) (take c.in-Ok-read_piece.read c.read_piece-2.new.piece) h.opened.begins
    (c.in-Ok.ensures.more start h.octets h.file) (c.in-Ok.ensures.end start h.octets h.file)
    (c.in-Ok-read_piece.ensures.more start front here) (c.in-Ok-read_piece.ensures.end start front here)
    c.in-Ok.ensures.bound c.in-Ok-read_piece.ensures.bound c.if-read-count.true (ap (λ (fewer : ℕ). 8 + 8 * c.args.at + fewer) least))

pub read_piece-requires : goal.read_piece-requires
read_piece-requires g c = c.requires.within

pub measure_piece-requires-clause-few : goal.measure_piece-requires-clause-few
measure_piece-requires-clause-few g c =
    let long = length-take c.in-Ok.count c.read_piece.new.piece in
    omega (arith, long, c.in-Ok.ensures.within, c.requires.count)

pub returns-in-Err-clause-err : goal.returns-in-Err-clause-err
returns-in-Err-clause-err g c start mode h = one_unread h.opened.begins.rec_within h.opened.begins.file_within

pub returns-in-Err-clause-reads : goal.returns-in-Err-clause-reads
returns-in-Err-clause-reads g c = c.in-Err.ensures.reads

pub returns-in-Err-clause-counts : goal.returns-in-Err-clause-counts
returns-in-Err-clause-counts g c =
    file-fails (g.F.Folder.state c.args.folder.now) (g.F.Folder.state c.read_piece.new.folder) (named c.args.names.now) c.in-Err.fault
    c.in-Err.ensures.fails

pub returns-in-Err-read_piece-clause-err : goal.returns-in-Err-read_piece-clause-err
returns-in-Err-read_piece-clause-err g c start mode h = one_unread h.opened.begins.rec_within h.opened.begins.file_within

pub returns-in-Err-read_piece-clause-reads : goal.returns-in-Err-read_piece-clause-reads
returns-in-Err-read_piece-clause-reads g c = OnlyReads-trans c.in-Ok.ensures.reads c.in-Err-read_piece.ensures.reads

pub returns-in-Err-read_piece-clause-counts : goal.returns-in-Err-read_piece-clause-counts
returns-in-Err-read_piece-clause-counts g c =
    let mid : FolderState = g.F.Folder.state c.read_piece.new.folder in
    let new : FolderState = g.F.Folder.state c.read_piece-2.new.folder in
    stop-earlier (g.F.Folder.state c.args.folder.now) mid new (inputs_of (named c.args.names.now)) [] (Read c.in-Err-read_piece.fault)
    c.in-Ok.ensures.stand (rec-fails mid new (named c.args.names.now) c.in-Err-read_piece.fault c.in-Err-read_piece.ensures.fails)

pub returns-then-read-count-clause-reads : goal.returns-then-read-count-clause-reads
returns-then-read-count-clause-reads g c = OnlyReads-trans c.in-Ok.ensures.reads c.in-Ok-read_piece.ensures.reads

pub returns-then-read-count-clause-counts : goal.returns-then-read-count-clause-counts
returns-then-read-count-clause-counts g c = (tt, CountsStand-trans c.in-Ok.ensures.stand c.in-Ok-read_piece.ensures.stand)

pub returns : goal.returns
returns g c = record {
  ok = λ start mode h.
      let n : MarginNames = named c.args.names.now in
      let mid : FolderState = g.F.Folder.state c.read_piece.new.folder in
      let front : List ℕ = header_of mode ++ h.content in
      let here : ReadTo start mid n.rec RECORDING_LIMIT (8 + 8 * c.args.at) front =
      ReadTo-kept start _ mid n.rec RECORDING_LIMIT (8 + 8 * c.args.at) front h.rec.read c.read_piece.ensures.reads.goes_on
      (c.read_piece.ensures.reads.names n.rec) in
      let recorded : List ℕ = take c.in-Ok-read_piece.read c.read_piece-2.new.piece in
      let long : length recorded ≡ c.in-Ok-read_piece.read =
      length-take c.in-Ok-read_piece.read c.read_piece-2.new.piece
      ∙ omega (arith, c.in-Ok-read_piece.ensures.bound, c.read_piece-2.ensures.kept) in (
        measured-more start _ mid _ n mode c.args.margin.now c.measure_piece.new.margin c.args.at c.in-Ok.count c.in-Ok-read_piece.read
            (take c.in-Ok.count c.read_piece.new.piece) recorded h c.read_piece.ensures.reads c.read_piece-2.ensures.reads
            (c.in-Ok.ensures.more start h.octets h.file) (c.in-Ok-read_piece.ensures.more start front here) long c.if-read-count.false
            (c.measure_piece.ensures.stands mode h.octets (samples_in h.content) h.stands),
        λ none. (
            let nothing : c.in-Ok-read_piece.read ≡ 0 = omega (arith, c.if-read-count.false, none) in (
              ended start mid n.file FILE_LIMIT c.args.at c.in-Ok.count 512 h.octets (take c.in-Ok.count c.read_piece.new.piece)
                  (c.in-Ok.ensures.more start h.octets h.file) (c.in-Ok.ensures.end start h.octets h.file) (omega (arith, none)) none,
              ended start _ n.rec RECORDING_LIMIT (8 + 8 * c.args.at) c.in-Ok-read_piece.read 4096 front
                  (take c.in-Ok-read_piece.read c.read_piece-2.new.piece) (c.in-Ok-read_piece.ensures.more start front here)
                  (c.in-Ok-read_piece.ensures.end start front here) (omega (arith, nothing)) nothing,
            )
            ),
      );
  err = search rules;
  next =
      let long : length (take c.in-Ok.count c.read_piece.new.piece) ≡ c.in-Ok.count =
      length-take c.in-Ok.count c.read_piece.new.piece ∙ omega (arith, c.in-Ok.ensures.bound, c.in-Ok.ensures.kept) in
      (c.in-Ok.ensures.within, omega (arith, c.measure_piece.ensures.count, c.requires.count, long));
  reads = OnlyReads-trans c.in-Ok.ensures.reads c.in-Ok-read_piece.ensures.reads;
  counts = CountsStand-trans c.in-Ok.ensures.stand c.in-Ok-read_piece.ensures.stand;
}
