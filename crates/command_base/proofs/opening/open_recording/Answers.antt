use Rattle.command_base.proofs.Names.{inr, ℕ, List, [], ◌∷◌, ◌∙◌, refl, sym, take, subst, ReadTo, OnlyReads-trans, CountsStand-trans}
use Rattle.command_base.proofs.Names.{FolderState, IsBadHeader}
use Rattle.command_base.specs.declared.limits.TheConstants.{RECORDING_LIMIT}
use Rattle.command_base.proofs.Reading.{ReadTo-none}
use Rattle.command_base.proofs.HeaderRead.{header-octets, not-within, within-counts}
use Rattle.command_base.proofs.Jobs.{read-earlier}
use Rattle.command_base.proofs.opening.open_recording.Goals as goal

pub returns-in-Err : goal.returns-in-Err
returns-in-Err g c =
    let old : FolderState = g.F.Folder.state c.args.folder.now in
    let n1 : FolderState = g.F.Folder.state c.within_limit.new.folder in
    record {
      ok = tt;
      err = not-within old n1 c.args.name.now c.args.rate c.args.word c.in-Err.stop c.in-Err.ensures.refused;
      reads = c.within_limit.ensures.reads;
      counts = λ outputs. within-counts old n1 c.args.name.now RECORDING_LIMIT c.args.word c.in-Err.stop outputs c.in-Err.ensures.refused;
    }

pub returns-in-Ok-read_header : goal.returns-in-Ok-read_header
returns-in-Ok-read_header g c =
    let name : List ℕ = c.args.name.now in
    let old : FolderState = g.F.Folder.state c.args.folder.now in
    let n1 : FolderState = g.F.Folder.state c.within_limit.new.folder in
    let n2 : FolderState = g.F.Folder.state c.read_piece.new.folder in
    let first = c.within_limit.ensures.reads in
    let none : ReadTo old n1 name RECORDING_LIMIT 0 [] =
    ReadTo-none old n1 name RECORDING_LIMIT c.in-Ok.ensures.within first.goes_on (first.names name) in
    record {
      ok = record {
        reads = OnlyReads-trans first c.read_piece.ensures.reads;
        stand = CountsStand-trans c.in-Ok.ensures.stand c.in-Ok-read_piece.ensures.stand;
        within = c.in-Ok.ensures.within;
        header = λ told. sym c.in-Ok-read_header.ensures.ok
            ∙ header-octets old n2 name c.in-Ok-read_piece.count
            (take c.in-Ok-read_piece.count c.read_piece.new.piece) c.in-Ok-read_piece.ensures.bound
            (c.in-Ok-read_piece.ensures.more old [] none) (c.in-Ok-read_piece.ensures.end old [] none) told;
      };
      err = tt;
      reads = OnlyReads-trans first c.read_piece.ensures.reads;
      counts = λ outputs. tt;
    }

pub returns-in-Err-read_header : goal.returns-in-Err-read_header
returns-in-Err-read_header g c =
    let name : List ℕ = c.args.name.now in
    let old : FolderState = g.F.Folder.state c.args.folder.now in
    let n1 : FolderState = g.F.Folder.state c.within_limit.new.folder in
    let n2 : FolderState = g.F.Folder.state c.read_piece.new.folder in
    let first = c.within_limit.ensures.reads in
    let stand = CountsStand-trans c.in-Ok.ensures.stand c.in-Ok-read_piece.ensures.stand in
    let none : ReadTo old n1 name RECORDING_LIMIT 0 [] =
    ReadTo-none old n1 name RECORDING_LIMIT c.in-Ok.ensures.within first.goes_on (first.names name) in
    record {
      ok = tt;
      err = (
        inr (
          c.in-Err-read_header.at,
          refl,
          record {
            within = c.in-Ok.ensures.within;
            bad = λ told. subst (λ (xs : List ℕ). IsBadHeader c.args.rate xs c.in-Err-read_header.at)
                (header-octets old n2 name c.in-Ok-read_piece.count
                (take c.in-Ok-read_piece.count c.read_piece.new.piece) c.in-Ok-read_piece.ensures.bound
                (c.in-Ok-read_piece.ensures.more old [] none) (c.in-Ok-read_piece.ensures.end old [] none) told)
                c.in-Err-read_header.ensures.err;
          },
        ),
        stand,
      );
      reads = OnlyReads-trans first c.read_piece.ensures.reads;
      counts = λ outputs. (tt, stand);
    }

pub returns-in-Err-read_piece : goal.returns-in-Err-read_piece
returns-in-Err-read_piece g c =
    let fails = read-earlier (g.F.Folder.state c.args.folder.now) (g.F.Folder.state c.within_limit.new.folder)
    (g.F.Folder.state c.read_piece.new.folder) (c.args.name.now ∷ []) c.in-Err-read_piece.fault c.in-Ok.ensures.stand
    c.in-Err-read_piece.ensures.fails in
    record {
      ok = tt;
      err = fails;
      reads = OnlyReads-trans c.within_limit.ensures.reads c.read_piece.ensures.reads;
      counts = λ outputs. fails;
    }
