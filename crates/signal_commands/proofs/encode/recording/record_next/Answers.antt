use Rattle.signal_commands.proofs.Names.{◌≡◌, inr, ℕ, ◌+◌, ◌<◌, List, [], ◌∷◌, ◌++◌, IsTrue, take, subst, arith, rules, length-take}
use Rattle.signal_commands.proofs.Names.{write-earlier, OnlyOutput-reads, CountsStand-trans, FolderState, octets_at, Appended}
use Rattle.signal_commands.proofs.Names.{PartlyAppended, RecorderStands, EncodeNames, Recorder}
use Rattle.signal_commands.specs.Encoding.Words.{named}
use Rattle.signal_commands.proofs.Encoding.Making.{recorded-front, recorded-read, recorded-more, recorded-whole, piece-part, writes-only}
use Rattle.signal_commands.proofs.encode.recording.record_next.Goals as goal

pub returns-in-Err-clause-err : goal.returns-in-Err-clause-err
returns-in-Err-clause-err g c = λ start r.
    inr (recorded-front start (g.F.Folder.state c.args.folder.now) (g.F.Folder.state c.read_piece.new.folder)
    (named c.args.names.now) c.args.recorder.now c.args.at r c.in-Err.ensures.reads)

pub returns-in-Err-append_output-clause-err : goal.returns-in-Err-append_output-clause-err
returns-in-Err-append_output-clause-err g c = λ start r.
    let old : FolderState = g.F.Folder.state c.args.folder.now in let mid : FolderState = g.F.Folder.state c.read_piece.new.folder in
    let new : FolderState = g.F.Folder.state c.append_output.new.folder in
    let n : EncodeNames = named c.args.names.now in let made : List ℕ = c.record_piece.new.recorded in let piece : List ℕ =
    take c.in-Ok.count c.read_piece.new.piece in
    let next : Recorder = c.record_piece.new.recorder in
    let stands : RecorderStands n.rate n.mode next (r.octets ++ piece) (r.recorded ++ made) =
    c.record_piece.ensures n.rate n.mode r.octets r.recorded r.stands in (
      r.read.within,
      piece-part start old mid new n c.args.recorder.now next c.args.at c.in-Ok.count piece made r
          (c.in-Ok.ensures.more start r.octets r.read) stands c.in-Ok.ensures.reads c.in-Err-append_output.ensures.only
          (subst (λ (xs : List ℕ). PartlyAppended mid new n.rec xs) c.as_slice.ensures.items c.in-Err-append_output.ensures.err),
    )

pub read_piece-requires : goal.read_piece-requires
read_piece-requires g c = c.requires.within

pub returns-in-Ok-eq0 : goal.returns-in-Ok-eq0
returns-in-Ok-eq0 g c = record {
  ok = λ start r.
      let end : (count : ℕ) → count ≡ 0 → (count < 512 → IsTrue (start.tells c.args.names.now.file.now)
      → r.octets ++ take count c.read_piece.new.piece ≡ octets_at start c.args.names.now.file.now) →
      IsTrue (start.tells c.args.names.now.file.now) → r.octets ++ [] ≡ octets_at start c.args.names.now.file.now =
      λ count e h told. (subst (λ (m : ℕ). m < 512
      → r.octets ++ take m c.read_piece.new.piece ≡ octets_at start c.args.names.now.file.now) e (λ few. h few told)) (omega arith) in (
        recorded-read start (g.F.Folder.state c.args.folder.now) (g.F.Folder.state c.read_piece.new.folder) (named c.args.names.now)
            c.args.recorder.now c.args.at (c.args.at + 0) (omega arith) r c.in-Ok-eq0.ensures.reads,
        λ zero. recorded-whole start (g.F.Folder.state c.args.folder.now) (g.F.Folder.state c.read_piece.new.folder)
            (named c.args.names.now) c.args.recorder.now c.args.at r c.in-Ok-eq0.ensures.reads
            (end c.in-Ok-eq0.field-0 c.in-Ok-eq0.field-0-test (c.in-Ok-eq0.ensures.end start r.octets r.read)),
      );
  err = search rules;
  bound = omega (arith, c.requires.within);
  only = OnlyOutput-reads c.args.names.now.rec.now c.in-Ok-eq0.ensures.reads;
  counts = c.in-Ok-eq0.ensures.stand;
}

pub returns-in-Err-clause-only : goal.returns-in-Err-clause-only
returns-in-Err-clause-only g c = OnlyOutput-reads c.args.names.now.rec.now c.in-Err.ensures.reads

pub returns-in-Err-clause-counts : goal.returns-in-Err-clause-counts
returns-in-Err-clause-counts g c = c.in-Err.ensures.fails

pub returns-in-Err-append_output-clause-only : goal.returns-in-Err-append_output-clause-only
returns-in-Err-append_output-clause-only g c =
    writes-only (g.F.Folder.state c.args.folder.now) (g.F.Folder.state c.read_piece.new.folder)
    (g.F.Folder.state c.append_output.new.folder) (named c.args.names.now) c.in-Ok.ensures.reads c.in-Err-append_output.ensures.only

pub returns-in-Ok-append_output : goal.returns-in-Ok-append_output
returns-in-Ok-append_output g c = record {
  ok = λ start r.
      let old : FolderState = g.F.Folder.state c.args.folder.now in let mid : FolderState = g.F.Folder.state c.read_piece.new.folder in
      let new : FolderState = g.F.Folder.state c.append_output.new.folder in
      let n : EncodeNames = named c.args.names.now in let made : List ℕ = c.record_piece.new.recorded in let piece : List ℕ =
      take c.in-Ok.count c.read_piece.new.piece in
      let next : Recorder = c.record_piece.new.recorder in
      let stands : RecorderStands n.rate n.mode next (r.octets ++ piece) (r.recorded ++ made) =
      c.record_piece.ensures n.rate n.mode r.octets r.recorded r.stands in (
        recorded-more start old mid new n c.args.recorder.now next c.args.at c.in-Ok.count piece made r c.requires.apart
            (c.in-Ok.ensures.more start r.octets r.read) stands c.in-Ok.ensures.reads c.in-Ok-append_output.ensures.only
            (subst (λ (xs : List ℕ). Appended mid new n.rec xs) c.as_slice.ensures.items c.in-Ok-append_output.ensures.ok),
        λ none. absurd (omega (arith, none, c.in-Ok.count-test)),
      );
  err = search rules;
  bound = c.in-Ok.ensures.within;
  only =
      writes-only (g.F.Folder.state c.args.folder.now) (g.F.Folder.state c.read_piece.new.folder)
      (g.F.Folder.state c.append_output.new.folder) (named c.args.names.now) c.in-Ok.ensures.reads c.in-Ok-append_output.ensures.only;
  counts = CountsStand-trans c.in-Ok.ensures.stand c.in-Ok-append_output.ensures.stand;
}

pub returns-in-Err-append_output-clause-counts : goal.returns-in-Err-append_output-clause-counts
returns-in-Err-append_output-clause-counts g c =
    write-earlier (g.F.Folder.state c.args.folder.now) (g.F.Folder.state c.read_piece.new.folder)
    (g.F.Folder.state c.append_output.new.folder)
    (c.args.names.now.rec.now ∷ []) c.in-Err-append_output.fault c.in-Ok.ensures.stand c.in-Err-append_output.ensures.fails

pub record_piece-requires : goal.record_piece-requires
record_piece-requires g c = omega (arith, length-take c.in-Ok.count c.read_piece.new.piece, c.in-Ok.ensures.bound, c.in-Ok.ensures.kept)
