use Rattle.signal_commands.proofs.Names.{◌≡◌, ◌≢◌, ◌∙◌, inl, inr, ℕ, ◌+◌, ◌-◌, ◌%◌, [], ◌∷◌, ◌++◌, List, length, length-append, take, sym}
use Rattle.signal_commands.proofs.Names.{subst, arith, rules, length-take, behind-kept, reads-first, reads-all, write-earlier, ReadBehind}
use Rattle.signal_commands.proofs.Names.{HoldsFront-more, Holds-kept, Holds-more, CountsStand-trans, FolderState, Appended, PartlyAppended}
use Rattle.signal_commands.proofs.Names.{samples_in-append, samples_in, LosesWithin, Hears, DecodeNames, named, Playback, Sample}
use Rattle.signal_commands.specs.Decoding.Playing.{IsReady}
use Rattle.signal_commands.proofs.Decoding.Parts.{Releases, piece-releases, part, front-part, lost-part, cut-part}
use Rattle.signal_commands.proofs.Decoding.Steps.{apart-names, only-read, only-write, only-of-reads}
use Rattle.signal_commands.proofs.decode.player.play_next.Goals as goal

pub returns-in-Err : goal.returns-in-Err
returns-in-Err g c = record {
  size = c.read_samples.ensures.kept;
  ok = search rules;
  err = λ start written h.
      let n : DecodeNames = named c.args.names.now in
      let reads = c.read_samples.ensures.reads in
      inr (front-part start _ n c.args.mode c.args.playback.now h.content h.octets
      (reads-first start _ n.rec n.rate c.args.mode h.content c.args.at h.behind) h.hears c.requires.ready.not_lost
      c.requires.ready.all_taken (Holds-kept _ _ n.file h.octets reads.goes_on h.file (reads.names n.file)));
  next = search rules;
  only =
      only-of-reads (g.F.Folder.state c.args.folder.now) (g.F.Folder.state c.read_samples.new.folder) c.args.names.now.file.now
      c.read_samples.ensures.reads;
  counts = c.in-Err.ensures.fails;
}

pub returns-in-Err-append_output : goal.returns-in-Err-append_output
returns-in-Err-append_output g c =
    let n1 : FolderState = g.F.Folder.state c.read_samples.new.folder in
    record {
      size = c.read_samples.ensures.kept;
      ok = search rules;
      err = λ start written h.
          let n : DecodeNames = named c.args.names.now in
          let n2 : FolderState = g.F.Folder.state c.append_output.new.folder in
          let reads = c.read_samples.ensures.reads in
          let piece : List ℕ = take c.in-Ok.read c.read_samples.new.piece in
          let given : List ℕ = c.play_piece-played.new.octets in
          let behind : ReadBehind start n1 n.rec n.rate c.args.mode (h.content ++ piece) (c.args.at + c.in-Ok.read) =
          c.in-Ok.ensures.more start n.rate c.args.mode h.content h.behind in
          let plays = c.play_piece-played.ensures.plays n.rate c.args.mode (samples_in h.content) h.octets h.hears in
          let releases : Releases n.rate c.args.mode (samples_in (h.content ++ piece)) (h.octets ++ given) =
          subst (λ (xs : List Sample). Releases n.rate c.args.mode xs (h.octets ++ given)) (sym (samples_in-append h.content piece h.whole))
          (piece-releases n.rate c.args.mode c.play_piece-played.new.playback (samples_in h.content) piece
          (h.octets ++ given) c.play_piece-played.result plays c.play_piece-played.ensures.taken) in
          let kept = Holds-kept _ n1 n.file h.octets reads.goes_on h.file (reads.names n.file) in
          let puts : PartlyAppended n1 n2 n.file given =
          subst (λ (xs : List ℕ). PartlyAppended n1 n2 n.file xs) c.as_slice.ensures.items c.in-Err-append_output.ensures.err in
          let file = HoldsFront-more n1 n2 n.file h.octets given c.append_output.ensures.only.goes_on kept puts in (
            h.behind.read.within,
            inr (part start n2 n c.args.mode (h.content ++ piece) (h.octets ++ given)
                (reads-first start n1 n.rec n.rate c.args.mode (h.content ++ piece) (c.args.at + c.in-Ok.read) behind) releases file),
          );
      next = search rules;
      only =
          only-write (g.F.Folder.state c.args.folder.now) n1 (g.F.Folder.state c.append_output.new.folder) c.args.names.now.file.now
          (only-of-reads (g.F.Folder.state c.args.folder.now) n1 c.args.names.now.file.now c.read_samples.ensures.reads)
          c.append_output.ensures.only;
      counts =
          write-earlier (g.F.Folder.state c.args.folder.now) (g.F.Folder.state c.read_samples.new.folder)
          (g.F.Folder.state c.append_output.new.folder)
          (c.args.names.now.file.now ∷ []) c.in-Err-append_output.fault c.in-Ok.ensures.stand c.in-Err-append_output.ensures.fails;
    }

pub returns-in-Ok-2 : goal.returns-in-Ok-2
returns-in-Ok-2 g c =
    let n1 : FolderState = g.F.Folder.state c.read_samples.new.folder in
    record {
      size = c.read_samples.ensures.kept;
      ok = search rules;
      err = λ start written h.
          let n : DecodeNames = named c.args.names.now in
          let n2 : FolderState = g.F.Folder.state c.append_output.new.folder in
          let p : Playback = c.play_piece-played.new.playback in
          let reads = c.read_samples.ensures.reads in
          let piece : List ℕ = take c.in-Ok.read c.read_samples.new.piece in
          let given : List ℕ = c.play_piece-played.new.octets in
          let long : length piece ≡ c.in-Ok.read =
          length-take c.in-Ok.read c.read_samples.new.piece ∙ omega (arith, c.in-Ok.ensures.bound, c.read_samples.ensures.kept) in
          let behind : ReadBehind start n1 n.rec n.rate c.args.mode (h.content ++ piece) (c.args.at + c.in-Ok.read) =
          c.in-Ok.ensures.more start n.rate c.args.mode h.content h.behind in
          let hears = c.in-Ok-2.ensures.plays n.rate c.args.mode (samples_in h.content) h.octets h.hears in
          let ready = c.in-Ok-2.ensures.ready c.args.at c.requires.ready in
          let kept = Holds-kept _ n1 n.file h.octets reads.goes_on h.file (reads.names n.file) in
          let puts : Appended n1 n2 n.file given =
          subst (λ (xs : List ℕ). Appended n1 n2 n.file xs) c.as_slice.ensures.items c.in-Ok-append_output.ensures.ok in
          let cut : c.in-Ok.read % 4 ≢ 0 = c.if-read-eq0.false in
          let content_cut : length (h.content ++ piece) % 4 ≡ c.in-Ok.read % 4 = omega
          (arith, h.whole, length-append h.content piece, long) in
          inr (cut-part start n2 n c.args.mode p (h.content ++ piece) (h.octets ++ given) (c.args.at + (c.in-Ok.read - c.in-Ok.read % 4))
          (reads-all start n1 n.rec n.rate c.args.mode (h.content ++ piece) (c.args.at + c.in-Ok.read) behind
          (c.in-Ok.ensures.end start n.rate c.args.mode h.content h.behind (inl cut))) (λ e. cut (sym content_cut ∙ e))
          (omega (arith, behind.at_is, content_cut)) (subst (λ (xs : List Sample). Hears n.rate c.args.mode p xs (h.octets ++ given))
          (sym (samples_in-append h.content piece h.whole)) hears) ready.not_lost ready.all_taken
          (Holds-more n1 n2 n.file h.octets given c.append_output.ensures.only.goes_on kept puts));
      next = search rules;
      only =
          only-write (g.F.Folder.state c.args.folder.now) n1 (g.F.Folder.state c.append_output.new.folder) c.args.names.now.file.now
          (only-of-reads (g.F.Folder.state c.args.folder.now) n1 c.args.names.now.file.now c.read_samples.ensures.reads)
          c.append_output.ensures.only;
      counts = (tt, CountsStand-trans c.in-Ok.ensures.stand c.in-Ok-append_output.ensures.stand);
    }

pub returns-in-Err-played : goal.returns-in-Err-played
returns-in-Err-played g c =
    let n1 : FolderState = g.F.Folder.state c.read_samples.new.folder in
    record {
      size = c.read_samples.ensures.kept;
      ok = search rules;
      err = λ start written h.
          let n : DecodeNames = named c.args.names.now in
          let n2 : FolderState = g.F.Folder.state c.append_output.new.folder in
          let p : Playback = c.play_piece-played.new.playback in
          let reads = c.read_samples.ensures.reads in
          let piece : List ℕ = take c.in-Ok.read c.read_samples.new.piece in
          let given : List ℕ = c.play_piece-played.new.octets in
          let symbol : ℕ = c.in-Err-played.lost.symbol in
          let behind : ReadBehind start n1 n.rec n.rate c.args.mode (h.content ++ piece) (c.args.at + c.in-Ok.read) =
          c.in-Ok.ensures.more start n.rate c.args.mode h.content h.behind in
          let loses = c.in-Err-played.ensures.plays n.rate c.args.mode (samples_in h.content) h.octets h.hears in
          let kept = Holds-kept _ n1 n.file h.octets reads.goes_on h.file (reads.names n.file) in
          let puts : Appended n1 n2 n.file given =
          subst (λ (xs : List ℕ). Appended n1 n2 n.file xs) c.as_slice.ensures.items c.in-Ok-append_output.ensures.ok in
          lost-part start n2 n c.args.mode p (h.content ++ piece) (h.octets ++ given) symbol c.hearer_of.result
          (reads-first start n1 n.rec n.rate c.args.mode (h.content ++ piece) (c.args.at + c.in-Ok.read) behind)
          (subst (λ (xs : List Sample). LosesWithin n.rate c.args.mode p xs (h.octets ++ given) symbol)
          (sym (samples_in-append h.content piece h.whole)) loses) c.hearer_of.ensures
          (Holds-more n1 n2 n.file h.octets given c.append_output.ensures.only.goes_on kept puts);
      next = search rules;
      only =
          only-write (g.F.Folder.state c.args.folder.now) n1 (g.F.Folder.state c.append_output.new.folder) c.args.names.now.file.now
          (only-of-reads (g.F.Folder.state c.args.folder.now) n1 c.args.names.now.file.now c.read_samples.ensures.reads)
          c.append_output.ensures.only;
      counts = (tt, CountsStand-trans c.in-Ok.ensures.stand c.in-Ok-append_output.ensures.stand);
    }

pub returns-in-Ok-played : goal.returns-in-Ok-played
returns-in-Ok-played g c =
    let n1 : FolderState = g.F.Folder.state c.read_samples.new.folder in
    record {
      size = c.read_samples.ensures.kept;
      ok = λ start written h.
          let n : DecodeNames = named c.args.names.now in
          let n2 : FolderState = g.F.Folder.state c.append_output.new.folder in
          let p : Playback = c.play_piece-played.new.playback in
          let reads = c.read_samples.ensures.reads in
          let piece : List ℕ = take c.in-Ok.read c.read_samples.new.piece in
          let given : List ℕ = c.play_piece-played.new.octets in
          let long : length piece ≡ c.in-Ok.read =
          length-take c.in-Ok.read c.read_samples.new.piece ∙ omega (arith, c.in-Ok.ensures.bound, c.read_samples.ensures.kept) in
          let behind : ReadBehind start n1 n.rec n.rate c.args.mode (h.content ++ piece) (c.args.at + c.in-Ok.read) =
          c.in-Ok.ensures.more start n.rate c.args.mode h.content h.behind in
          let hears = c.in-Ok-played.ensures.plays n.rate c.args.mode (samples_in h.content) h.octets h.hears in
          let kept = Holds-kept _ n1 n.file h.octets reads.goes_on h.file (reads.names n.file) in
          let puts : Appended n1 n2 n.file given =
          subst (λ (xs : List ℕ). Appended n1 n2 n.file xs) c.as_slice.ensures.items c.in-Ok-append_output.ensures.ok in (
            record {
              content = h.content ++ piece;
              octets = h.octets ++ given;
              hears = subst (λ (xs : List Sample). Hears n.rate c.args.mode p xs (h.octets ++ given))
                  (sym (samples_in-append h.content piece h.whole)) hears;
              whole = omega (arith, h.whole, length-append h.content piece, long, c.if-read-eq0.true);
              written_is = omega (arith, h.written_is, length-append h.octets given, c.len.ensures.count);
              behind = behind-kept start n1 n2 n.rec n.rate c.args.mode (h.content ++ piece)
                  (c.args.at + c.in-Ok.read) behind c.append_output.ensures.only.goes_on
                  (c.append_output.ensures.only.names n.rec (apart-names n c.requires.apart));
              only = only-write start n1 n2 n.file (only-read start _ n1 n.file h.only reads) c.append_output.ensures.only;
              file = Holds-more n1 n2 n.file h.octets given c.append_output.ensures.only.goes_on kept puts;
            },
            λ none told. (let e = c.in-Ok.ensures.end start n.rate c.args.mode h.content h.behind (inr none) told in omega
                (arith, e, none)),
          );
      err = search rules;
      next =
          let long : length (take c.in-Ok.read c.read_samples.new.piece) ≡ c.in-Ok.read =
          length-take c.in-Ok.read c.read_samples.new.piece ∙ omega (arith, c.in-Ok.ensures.bound, c.read_samples.ensures.kept) in (
            subst (λ (count : ℕ). IsReady c.play_piece-played.new.playback.reader (c.args.at + count)) long
                (c.in-Ok-played.ensures.ready c.args.at c.requires.ready),
            c.in-Ok.ensures.within,
            omega (arith, c.len.ensures.count, c.len.ensures.bound),
          );
      only =
          only-write (g.F.Folder.state c.args.folder.now) n1 (g.F.Folder.state c.append_output.new.folder) c.args.names.now.file.now
          (only-of-reads (g.F.Folder.state c.args.folder.now) n1 c.args.names.now.file.now c.read_samples.ensures.reads)
          c.append_output.ensures.only;
      counts = CountsStand-trans c.in-Ok.ensures.stand c.in-Ok-append_output.ensures.stand;
    }

pub play_piece-played-requires-clause-few : goal.play_piece-played-requires-clause-few
play_piece-played-requires-clause-few g c = omega (arith, length-take c.in-Ok.read c.read_samples.new.piece, c.in-Ok.ensures.bound)

pub play_piece-played-requires-clause-ready : goal.play_piece-played-requires-clause-ready
play_piece-played-requires-clause-ready g c = record {
  not_lost = c.requires.ready.not_lost;
  all_taken = c.requires.ready.all_taken;
  count = omega (arith, c.requires.ready.count, c.requires.within);
}
