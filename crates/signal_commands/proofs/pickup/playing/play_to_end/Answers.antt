use Rattle.signal_commands.proofs.Names.{ℕ, ◌+◌, List, [], ◌∷◌, sym, subst, arith, reads-all, stop-earlier, OnlyOutputs-trans}
use Rattle.signal_commands.proofs.Names.{CountsStand-trans, FolderState, PicksUpAll}
use Rattle.recordings.specs.declared.rate.Rate.TheVariants as rates
use Rattle.signal_commands.proofs.PickingUp.Parts.{all-by}
use Rattle.signal_commands.proofs.pickup.playing.play_to_end.Goals as goal

pub returns-in-Ok-eq0 : goal.returns-in-Ok-eq0
returns-in-Ok-eq0 g c = record {
  ends = λ start h.
      let new : FolderState = g.F.Folder.state c.play_next.new.folder in
      let rec : List ℕ = c.args.rec.now in
      let before = c.loop-player.invariant.played start h in
      let all = c.in-Ok-eq0.ensures.ok start before in
      let p = all.0 in
      let at : ℕ = c.loop-player.at + c.in-Ok-eq0.field-0 in
      let end = all.1 c.in-Ok-eq0.field-0-test in
      let ready = c.in-Ok-eq0.ensures.next.0 in
      subst (λ (count : ℕ). PicksUpAll start new rec count) (sym c.pieces.ensures)
      (all-by start new rec c.args.mode c.play_next.new.player p.content
      (reads-all start new rec rates.Trellis c.args.mode p.content at p.behind (λ told. (let e = end told in omega (arith, e)))) p.whole
      p.plays ready.not_lost ready.all_taken);
  only = OnlyOutputs-trans [] c.loop-player.invariant.only c.play_next.ensures.only;
  counts = CountsStand-trans c.loop-player.invariant.stand c.in-Ok-eq0.ensures.counts;
}

pub returns-in-Err : goal.returns-in-Err
returns-in-Err g c = record {
  ends = λ start h. c.in-Err.ensures.err start (c.loop-player.invariant.played start h);
  only = OnlyOutputs-trans [] c.loop-player.invariant.only c.play_next.ensures.only;
  counts =
      stop-earlier (g.F.Folder.state c.args.folder.now) (g.F.Folder.state c.loop-player.folder) (g.F.Folder.state c.play_next.new.folder)
      (c.args.rec.now ∷ []) [] c.in-Err.stop c.loop-player.invariant.stand c.in-Err.ensures.counts;
}

pub loop-player-preserved : goal.loop-player-preserved
loop-player-preserved g c =
    let before = c.loop-player.invariant in
    record {
      size = c.play_next.ensures.size;
      within = c.in-Ok.ensures.next.1;
      ready = c.in-Ok.ensures.next.0;
      played = λ start h. (c.in-Ok.ensures.ok start (before.played start h)).0;
      only = OnlyOutputs-trans [] before.only c.play_next.ensures.only;
      stand = CountsStand-trans before.stand c.in-Ok.ensures.counts;
    }
