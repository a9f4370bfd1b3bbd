use Rattle.signal_commands.proofs.Names.{◌≡◌, ◌≢◌, ◌∙◌, inl, inr, ℕ, ◌+◌, ◌-◌, ◌%◌, ◌++◌, ◌∷◌, [], List, length, length-append, take, refl}
use Rattle.signal_commands.proofs.Names.{sym, subst, arith, rules, length-take, behind-kept, reads-first, reads-all, stop-earlier}
use Rattle.signal_commands.proofs.Names.{ReadBehind, RECORDING_LIMIT, OnlyOutputs-reads, OnlyOutputs-trans, CountsStand-trans, FolderState}
use Rattle.signal_commands.proofs.Names.{samples_in-append, samples_in, is_cut, Plays, StopsPlay, Sample}
use Rattle.outside_calls.proofs.OnlyOutputs.{OnlyOutputs-says}
use Rattle.recordings.specs.declared.rate.Rate.TheVariants as rates
use Rattle.signal_commands.proofs.PickingUp.Playings.{plays-after, ready-later}
use Rattle.signal_commands.proofs.PickingUp.Parts.{front-part, stops-by, cut-by}
use Rattle.signal_commands.proofs.pickup.playing.play_next.Goals as goal

pub returns-in-Err : goal.returns-in-Err
returns-in-Err g c = record {
  size = c.read_samples.ensures.kept;
  ok = search rules;
  err = λ start h. inr (front-part start _ c.args.rec.now c.args.mode c.args.player.now h.content
      (reads-first start _ c.args.rec.now rates.Trellis c.args.mode h.content c.args.at h.behind)
      (plays-after start _ _ c.args.mode c.args.player.now (samples_in h.content) c.read_samples.ensures.reads h.plays)
      c.requires.ready.not_lost c.requires.ready.all_taken);
  next = search rules;
  only = OnlyOutputs-reads [] c.read_samples.ensures.reads;
  counts = c.in-Err.ensures.fails;
}

pub returns-in-Err-play_piece : goal.returns-in-Err-play_piece
returns-in-Err-play_piece g c = record {
  size = c.read_samples.ensures.kept;
  ok = search rules;
  err = λ start h.
      let n1 : FolderState = g.F.Folder.state c.read_samples.new.folder in
      let n2 : FolderState = g.F.Folder.state c.play_piece.new.folder in
      let piece : List ℕ = take c.in-Ok.read c.read_samples.new.piece in
      let behind : ReadBehind start n1 c.args.rec.now rates.Trellis c.args.mode (h.content ++ piece) (c.args.at + c.in-Ok.read) =
      c.in-Ok.ensures.more start rates.Trellis c.args.mode h.content h.behind in
      stops-by start n2 c.args.rec.now c.args.mode (h.content ++ piece) c.in-Err-play_piece.stop
      (reads-first start n1 c.args.rec.now rates.Trellis c.args.mode (h.content ++ piece) (c.args.at + c.in-Ok.read) behind)
      (subst (λ (xs : List Sample). StopsPlay start n2 c.args.mode xs c.in-Err-play_piece.stop)
      (sym (samples_in-append h.content piece h.whole)) (c.in-Err-play_piece.ensures.err start (samples_in h.content)
      (plays-after start _ n1 c.args.mode c.args.player.now (samples_in h.content) c.read_samples.ensures.reads h.plays)));
  next = search rules;
  only = OnlyOutputs-trans [] (OnlyOutputs-reads [] c.read_samples.ensures.reads) (OnlyOutputs-says [] c.play_piece.ensures.only);
  counts =
      stop-earlier (g.F.Folder.state c.args.folder.now) (g.F.Folder.state c.read_samples.new.folder)
      (g.F.Folder.state c.play_piece.new.folder) (c.args.rec.now ∷ []) [] c.in-Err-play_piece.stop c.in-Ok.ensures.stand
      (c.in-Err-play_piece.ensures.counts (c.args.rec.now ∷ []));
}

pub returns-then-read-ne0 : goal.returns-then-read-ne0
returns-then-read-ne0 g c = record {
  size = c.read_samples.ensures.kept;
  ok = search rules;
  err = λ start h.
      let n1 : FolderState = g.F.Folder.state c.read_samples.new.folder in
      let n2 : FolderState = g.F.Folder.state c.play_piece.new.folder in
      let piece : List ℕ = take c.in-Ok.read c.read_samples.new.piece in
      let long : length piece ≡ c.in-Ok.read =
      length-take c.in-Ok.read c.read_samples.new.piece ∙ omega (arith, c.in-Ok.ensures.bound, c.read_samples.ensures.kept) in
      let behind : ReadBehind start n1 c.args.rec.now rates.Trellis c.args.mode (h.content ++ piece) (c.args.at + c.in-Ok.read) =
      c.in-Ok.ensures.more start rates.Trellis c.args.mode h.content h.behind in
      let cut : c.in-Ok.read % 4 ≢ 0 = c.if-read-ne0.true in
      let content_cut : length (h.content ++ piece) % 4 ≡ c.in-Ok.read % 4 = omega (arith, h.whole, length-append h.content piece, long) in
      let ready = c.in-Ok-play_piece.ensures.ready c.args.at c.requires.ready in
      is_cut (c.args.at + (c.in-Ok.read - c.in-Ok.read % 4)) refl
      (cut-by start n2 c.args.rec.now c.args.mode c.play_piece.new.player (h.content ++ piece)
      (c.args.at + (c.in-Ok.read - c.in-Ok.read % 4))
      (reads-all start n1 c.args.rec.now rates.Trellis c.args.mode (h.content ++ piece) (c.args.at + c.in-Ok.read) behind
      (c.in-Ok.ensures.end start rates.Trellis c.args.mode h.content h.behind (inl cut)))
      (λ e. cut (sym content_cut ∙ e)) (omega (arith, behind.at_is, content_cut))
      (subst (λ (xs : List Sample). Plays start n2 c.args.mode c.play_piece.new.player xs) (sym (samples_in-append h.content piece h.whole))
      (c.in-Ok-play_piece.ensures.ok start (samples_in h.content)
      (plays-after start _ n1 c.args.mode c.args.player.now (samples_in h.content) c.read_samples.ensures.reads h.plays)))
      ready.not_lost ready.all_taken);
  next = search rules;
  only = OnlyOutputs-trans [] (OnlyOutputs-reads [] c.read_samples.ensures.reads) (OnlyOutputs-says [] c.play_piece.ensures.only);
  counts = (tt, CountsStand-trans c.in-Ok.ensures.stand (c.in-Ok-play_piece.ensures.counts []));
}

pub returns : goal.returns
returns g c =
    let piece : List ℕ = take c.in-Ok.read c.read_samples.new.piece in
    record {
      size = c.read_samples.ensures.kept;
      ok = λ start h.
          let n1 : FolderState = g.F.Folder.state c.read_samples.new.folder in
          let n2 : FolderState = g.F.Folder.state c.play_piece.new.folder in
          let long : length piece ≡ c.in-Ok.read =
          length-take c.in-Ok.read c.read_samples.new.piece ∙ omega (arith, c.in-Ok.ensures.bound, c.read_samples.ensures.kept) in
          let behind : ReadBehind start n1 c.args.rec.now rates.Trellis c.args.mode (h.content ++ piece) (c.args.at + c.in-Ok.read) =
          c.in-Ok.ensures.more start rates.Trellis c.args.mode h.content h.behind in (
            record {
              content = h.content ++ piece;
              plays = subst (λ (xs : List Sample). Plays start n2 c.args.mode c.play_piece.new.player xs)
                  (sym (samples_in-append h.content piece h.whole)) (c.in-Ok-play_piece.ensures.ok start (samples_in h.content)
                  (plays-after start _ n1 c.args.mode c.args.player.now (samples_in h.content) c.read_samples.ensures.reads h.plays));
              whole = omega (arith, h.whole, length-append h.content piece, long, c.if-read-ne0.false);
              behind = behind-kept start n1 n2 c.args.rec.now rates.Trellis c.args.mode (h.content ++ piece)
                  (c.args.at + c.in-Ok.read) behind c.play_piece.ensures.only.goes_on (c.play_piece.ensures.only.names c.args.rec.now);
              only = OnlyOutputs-trans [] h.only (OnlyOutputs-trans [] (OnlyOutputs-reads [] c.read_samples.ensures.reads)
                  (OnlyOutputs-says [] c.play_piece.ensures.only));
            },
            λ none told. (let e = c.in-Ok.ensures.end start rates.Trellis c.args.mode h.content h.behind (inr none)
                told in omega (arith, e, none)),
          );
      err = search rules;
      next =
          let long : length piece ≡ c.in-Ok.read =
          length-take c.in-Ok.read c.read_samples.new.piece ∙ omega (arith, c.in-Ok.ensures.bound, c.read_samples.ensures.kept) in (
            ready-later c.play_piece.new.player (c.args.at + length piece) (c.args.at + c.in-Ok.read) (omega (arith, long))
                (c.in-Ok-play_piece.ensures.ready c.args.at c.requires.ready),
            c.in-Ok.ensures.within,
          );
      only = OnlyOutputs-trans [] (OnlyOutputs-reads [] c.read_samples.ensures.reads) (OnlyOutputs-says [] c.play_piece.ensures.only);
      counts = CountsStand-trans c.in-Ok.ensures.stand (c.in-Ok-play_piece.ensures.counts []);
    }

pub play_piece-requires-clause-few : goal.play_piece-requires-clause-few
play_piece-requires-clause-few g c = omega (arith, length-take c.in-Ok.read c.read_samples.new.piece, c.in-Ok.ensures.bound)

pub play_piece-requires-clause-ready : goal.play_piece-requires-clause-ready
play_piece-requires-clause-ready g c = ready-later c.args.player.now c.args.at RECORDING_LIMIT c.requires.within c.requires.ready
