use Rattle.signal_commands.proofs.Names.{◌+◌, [], ◌∷◌, arith, stop-earlier, CountsStand-trans}
use Rattle.signal_commands.proofs.Decoding.Steps.{only-then}
use Rattle.signal_commands.proofs.decode.player.play_to_end.Goals as goal

pub returns-in-Ok-clause-ok : goal.returns-in-Ok-clause-ok
returns-in-Ok-clause-ok g c start h =
    let played = c.loop-step.invariant.played start h in (
      c.loop-step.at + c.in-Ok.step.read,
      (c.in-Ok.ensures.ok start c.loop-step.written played).0,
      λ told. (let e = (c.in-Ok.ensures.ok start c.loop-step.written played).1 c.if-step-eq0.true told in omega (arith, e)),
    )

pub loop-step-preserved : goal.loop-step-preserved
loop-step-preserved g c = record {
  size = c.play_next.ensures.size;
  within = c.in-Ok.ensures.next.1;
  ready = c.in-Ok.ensures.next.0;
  written_few = omega (arith, c.loop-step.invariant.written_few, c.in-Ok.ensures.next.2, c.if-step-eq0.false);
  played = λ start h. (c.in-Ok.ensures.ok start c.loop-step.written (c.loop-step.invariant.played start h)).0;
  only = only-then _ _ _ _ c.loop-step.invariant.only c.play_next.ensures.only;
  stand = CountsStand-trans c.loop-step.invariant.stand c.in-Ok.ensures.counts;
}

pub returns-in-Err-clause-err : goal.returns-in-Err-clause-err
returns-in-Err-clause-err g c start h = c.in-Err.ensures.err start c.loop-step.written (c.loop-step.invariant.played start h)

pub returns-in-Ok-clause-only : goal.returns-in-Ok-clause-only
returns-in-Ok-clause-only g c = only-then _ _ _ c.args.names.now.file.now c.loop-step.invariant.only c.play_next.ensures.only

pub returns-in-Ok-clause-counts : goal.returns-in-Ok-clause-counts
returns-in-Ok-clause-counts g c = CountsStand-trans c.loop-step.invariant.stand c.in-Ok.ensures.counts

pub returns-in-Err-clause-only : goal.returns-in-Err-clause-only
returns-in-Err-clause-only g c = only-then _ _ _ c.args.names.now.file.now c.loop-step.invariant.only c.play_next.ensures.only

pub returns-in-Err-clause-counts : goal.returns-in-Err-clause-counts
returns-in-Err-clause-counts g c =
    stop-earlier (g.F.Folder.state c.args.folder.now) (g.F.Folder.state c.loop-step.folder) (g.F.Folder.state c.play_next.new.folder)
    (c.args.names.now.rec.now ∷ []) (c.args.names.now.file.now ∷ []) c.in-Err.stop c.loop-step.invariant.stand c.in-Err.ensures.counts

pub loop-step-smaller : goal.loop-step-smaller
loop-step-smaller g c = omega (arith, c.in-Ok.ensures.next.1, c.if-step-eq0.false)
