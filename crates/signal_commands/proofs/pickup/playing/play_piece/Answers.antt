use Rattle.signal_commands.proofs.Names.{◌≡◌, ◌∙◌, ◌≤◌, ◌+◌, ◌*◌, ◌/◌, ◌++◌, ℕ, List, [], length, take, sym, ap, subst, arith, append_assoc}
use Rattle.signal_commands.proofs.Names.{length-take-le, says-trans, stop-earlier, RECORDING_LIMIT, CountsStand-trans, FolderState}
use Rattle.signal_commands.proofs.Names.{samples_in-all, samples_in-split, samples_in, Plays, IsReady, StopsPlay, Sample}
use Rattle.signal_commands.proofs.Batches.{some-more, some-heard}
use Rattle.signal_commands.proofs.PickingUp.Playings.{ready-later, stops-longer}
use Rattle.signal_commands.proofs.pickup.playing.play_piece.Goals as goal

pub push_some-requires : goal.push_some-requires
push_some-requires g c =
    let copied = c.copy_samples-count in
    let r = c.loop-at.invariant.ready RECORDING_LIMIT c.requires.ready in
    record {
      some =
          subst (λ (n : ℕ). 1 ≤ n)
          (sym (length-take-le copied.result copied.new.samples (omega (arith, copied.array_long, copied.ensures.few))))
          (copied.ensures.some (omega (arith, c.loop-at-test.true)));
      taken = let r = c.loop-at.invariant.ready RECORDING_LIMIT c.requires.ready in r.all_taken;
      count =
          let long = length-take-le copied.result copied.new.samples (omega (arith, copied.array_long, copied.ensures.few)) in
          omega (arith, long, copied.ensures.few, r.count, c.loop-at-test.true, c.requires.few);
      pieces = omega (arith, r.pieces, c.loop-at-test.true, c.requires.few);
    }

pub returns-in-Err-clause-err : goal.returns-in-Err-clause-err
returns-in-Err-clause-err g c start samples h =
    let new : FolderState = g.F.Folder.state c.push_some.new.folder in
    let i = c.loop-at.invariant in
    let copied = c.copy_samples-count in
    let piece : List ℕ = c.args.piece.now in
    let upto : ℕ = 4 * (c.loop-at.at + copied.result) in
    let split = samples_in-split upto piece in
    let stops : StopsPlay start new c.args.mode (samples ++ samples_in (take upto piece)) c.in-Err.stop =
    subst (λ (xs : List Sample). StopsPlay start new c.args.mode xs c.in-Err.stop)
    (append_assoc samples (samples_in (take (4 * c.loop-at.at) piece)) (take copied.result copied.new.samples)
    ∙ ap (λ (xs : List Sample). samples ++ xs) copied.ensures.samples)
    (c.in-Err.ensures.err start (samples ++ samples_in (take (4 * c.loop-at.at) piece)) (i.plays start samples h)) in
    subst (λ (xs : List Sample). StopsPlay start new c.args.mode xs c.in-Err.stop)
    (append_assoc samples (samples_in (take upto piece)) split.0 ∙ ap (λ (xs : List Sample). samples ++ xs) (sym split.1))
    (stops-longer start new c.args.mode (samples ++ samples_in (take upto piece)) split.0 c.in-Err.stop stops)

pub returns-in-Err-clause-counts : goal.returns-in-Err-clause-counts
returns-in-Err-clause-counts g c inputs =
    stop-earlier (g.F.Folder.state c.args.folder.now) (g.F.Folder.state c.loop-at.folder)
    (g.F.Folder.state c.push_some.new.folder) inputs [] c.in-Err.stop c.loop-at.invariant.stand (c.in-Err.ensures.counts inputs)

pub loop-at-preserved : goal.loop-at-preserved
loop-at-preserved g c =
    let i = c.loop-at.invariant in
    let new : FolderState = g.F.Folder.state c.push_some.new.folder in
    let copied = c.copy_samples-count in
    let heard = c.in-Ok.heard in
    let given : 1 ≤ copied.result = copied.ensures.some (omega (arith, c.loop-at-test.true)) in
    let few = some-heard copied.result heard copied.new.samples (omega (arith, copied.array_long, copied.ensures.few))
    c.in-Ok.ensures.within.1 (λ some. c.in-Ok.ensures.within.0) given in
    record {
      plays = λ start samples h. subst (λ (xs : List Sample). Plays start new c.args.mode c.push_some.new.self xs)
          (some-more samples c.args.piece.now c.loop-at.at copied.result heard (take copied.result copied.new.samples)
          copied.ensures.samples copied.ensures.within few.1)
          (c.in-Ok.ensures.ok start (samples ++ samples_in (take (4 * c.loop-at.at) c.args.piece.now)) (i.plays start samples h));
      ready = λ most r. (let same : most + c.loop-at.at + heard ≡ most + (c.loop-at.at + heard) = omega arith in
          subst (λ (m : ℕ). IsReady c.push_some.new.self m) same (c.in-Ok.ensures.ready (most + c.loop-at.at) (i.ready most r)));
      only = says-trans _ _ new i.only c.push_some.ensures.only;
      stand = CountsStand-trans i.stand (c.in-Ok.ensures.counts []);
      within = omega (arith, copied.ensures.within, few.1);
    }

pub returns-clause-ok : goal.returns-clause-ok
returns-clause-ok g c start samples h =
    let all : length c.args.piece.now / 4 ≤ c.loop-at.at = omega (arith, c.loop-at-test.false) in
    subst (λ (xs : List Sample). Plays start (g.F.Folder.state c.loop-at.folder) c.args.mode c.loop-at.player (samples ++ xs))
    (samples_in-all c.loop-at.at c.args.piece.now all) (c.loop-at.invariant.plays start samples h)

pub returns-clause-ready : goal.returns-clause-ready
returns-clause-ready g c most r =
    ready-later c.loop-at.player (most + c.loop-at.at) (most + length c.args.piece.now)
    (omega (arith, c.loop-at.invariant.within)) (c.loop-at.invariant.ready most r)
