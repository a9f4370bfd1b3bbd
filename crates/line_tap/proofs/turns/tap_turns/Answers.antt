use Rattle.line_tap.proofs.Cited.{◌∙◌, refl, subst, stop-earlier, TapNames, named, outputs_of, recordings_of, tapping, ScriptValue}
use Rattle.line_tap.proofs.Cited.{IsInLimits, OnlyPuts-refl, OnlyPuts-trans, CountsStand-refl, CountsStand-trans}
use Rattle.line_tap.proofs.Reached.{reached-none, less-left, reached-going, reached-done, reached-stop}
use Rattle.line_tap.proofs.turns.tap_turns.Goals as goal

pub loop-turns-preserved : goal.loop-turns-preserved
loop-turns-preserved g c =
    let n : TapNames = named c.args.names.now in
    let i = c.loop-turns.invariant in
    let script : ScriptValue = c.args.tap.now.script in
    record {
      ready = (rw c.in-Ok-Going.field-0-is at c.in-Ok-Going.ensures.ready) refl;
      script = c.in-Ok-Going.ensures.script ∙ i.script;
      reached = λ start k.
          let r = i.reached start k in
          reached-going c.loop-turns.tap script start _ _ n r c.in-Ok-Going.ensures.only.goes_on c.keeps_taken.ensures
          c.turn.new.self ((rw c.in-Ok-Going.field-0-is at c.in-Ok-Going.ensures.turn) start (tapping script r.bodies) r.turns r.after
          r.read);
      only = OnlyPuts-trans _ _ _ (outputs_of n) i.only c.in-Ok-Going.ensures.only;
      stand = CountsStand-trans i.stand c.in-Ok-Going.ensures.counts;
    }

pub returns-in-Ok-Done : goal.returns-in-Ok-Done
returns-in-Ok-Done g c = record {
  ends = λ start k.
      let n : TapNames = named c.args.names.now in
      let script : ScriptValue = c.args.tap.now.script in
      let r = c.loop-turns.invariant.reached start k in
      let limits : IsInLimits script = subst IsInLimits c.loop-turns.invariant.script c.loop-turns.invariant.ready.limits in
      reached-done c.loop-turns.tap script start _ _ n r c.in-Ok-Done.ensures.only.goes_on c.in-Ok-Done.turns
      (c.slots_have_room.ensures.room script limits).0 ((rw c.in-Ok-Done.field-0-is at c.in-Ok-Done.ensures.turn) start
      (tapping script r.bodies) r.turns r.after r.read);
  only =
      OnlyPuts-trans (g.F.Folder.state c.args.folder.now) (g.F.Folder.state c.loop-turns.folder) (g.F.Folder.state c.turn.new.folder)
      (outputs_of (named c.args.names.now)) c.loop-turns.invariant.only c.in-Ok-Done.ensures.only;
  counts = CountsStand-trans c.loop-turns.invariant.stand c.in-Ok-Done.ensures.counts;
}

pub returns-in-Err : goal.returns-in-Err
returns-in-Err g c = record {
  ends = λ start k.
      let n : TapNames = named c.args.names.now in
      let script : ScriptValue = c.args.tap.now.script in
      let r = c.loop-turns.invariant.reached start k in
      let limits : IsInLimits script = subst IsInLimits c.loop-turns.invariant.script c.loop-turns.invariant.ready.limits in
      reached-stop c.loop-turns.tap script start _ _ n r c.in-Err.ensures.only.goes_on c.in-Err.stop
      (c.slots_have_room.ensures.room script limits).0 (c.in-Err.ensures.turn start (tapping script r.bodies) r.turns r.after r.read);
  only =
      OnlyPuts-trans (g.F.Folder.state c.args.folder.now) (g.F.Folder.state c.loop-turns.folder) (g.F.Folder.state c.turn.new.folder)
      (outputs_of (named c.args.names.now)) c.loop-turns.invariant.only c.in-Err.ensures.only;
  counts =
      stop-earlier (g.F.Folder.state c.args.folder.now) (g.F.Folder.state c.loop-turns.folder) (g.F.Folder.state c.turn.new.folder)
      (recordings_of (named c.args.names.now)) (outputs_of (named c.args.names.now)) c.in-Err.stop c.loop-turns.invariant.stand
      c.in-Err.ensures.counts;
}

pub turn-requires-clause-ready : goal.turn-requires-clause-ready
turn-requires-clause-ready g c = c.loop-turns.invariant.ready

pub turn-requires-clause-apart : goal.turn-requires-clause-apart
turn-requires-clause-apart g c = c.requires.apart

pub loop-turns-init : goal.loop-turns-init
loop-turns-init g c =
    let n : TapNames = named c.args.names.now in
    record {
      ready = c.requires.ready;
      script = refl;
      reached = λ start k. reached-none c.args.tap.now start _ n c.requires.first k c.requires.created;
      only = OnlyPuts-refl _ (outputs_of n);
      stand = CountsStand-refl _;
    }

pub loop-turns-smaller : goal.loop-turns-smaller
loop-turns-smaller g c =
    less-left c.loop-turns.tap c.turn.new.self ((rw c.in-Ok-Going.field-0-is at c.in-Ok-Going.ensures.nearer) refl)
    ((rw c.in-Ok-Going.field-0-is at c.in-Ok-Going.ensures.ready) refl)
