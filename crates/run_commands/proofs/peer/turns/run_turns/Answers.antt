use Rattle.run_commands.proofs.Names.{refl, arith, stop-earlier, OnlyPuts-trans, CountsStand-refl, CountsStand-trans, named, inputs_of}
use Rattle.run_commands.proofs.Names.{outputs_of}
use Rattle.outside_calls.proofs.Putting.{OnlyPuts-refl}
use Rattle.run_commands.proofs.peer.turns.run_turns.Goals as goal

pub loop-turns-init : goal.loop-turns-init
loop-turns-init g c =
    record {
      reached = λ start r. r;
      ready = c.requires.ready;
      within = omega (arith, c.requires.first);
      only = OnlyPuts-refl _ (outputs_of (named c.args.words.now));
      stand = CountsStand-refl _;
    }

pub next_turn-requires : goal.next_turn-requires
next_turn-requires g c = assumption

pub loop-turns-preserved : goal.loop-turns-preserved
loop-turns-preserved g c =
    let before = c.loop-turns.invariant in
    record {
      reached = λ start r. (rw c.in-Ok-None.field-0-is at c.in-Ok-None.ensures.going) start (before.reached start r) refl;
      ready = ((rw c.in-Ok-None.field-0-is at c.in-Ok-None.ensures.next) refl).0;
      within = ((rw c.in-Ok-None.field-0-is at c.in-Ok-None.ensures.next) refl).1;
      only = OnlyPuts-trans (g.F.Folder.state c.args.folder.now) (g.F.Folder.state c.loop-turns.folder)
          (g.F.Folder.state c.next_turn.new.folder)
          (outputs_of (named c.args.words.now)) before.only c.in-Ok-None.ensures.only;
      stand = CountsStand-trans before.stand c.in-Ok-None.ensures.counts;
    }

pub loop-turns-smaller : goal.loop-turns-smaller
loop-turns-smaller g c =
    let next = (rw c.in-Ok-None.field-0-is at c.in-Ok-None.ensures.next) refl in omega (arith, next.1, next.2)

pub returns-in-Ok-Some : goal.returns-in-Ok-Some
returns-in-Ok-Some g c = record {
  ends = λ start r. (rw c.in-Ok-Some.field-0-is at c.in-Ok-Some.ensures.done) start (c.loop-turns.invariant.reached start r);
  only =
      OnlyPuts-trans (g.F.Folder.state c.args.folder.now) (g.F.Folder.state c.loop-turns.folder) (g.F.Folder.state c.next_turn.new.folder)
      (outputs_of (named c.args.words.now)) c.loop-turns.invariant.only c.in-Ok-Some.ensures.only;
  counts = CountsStand-trans c.loop-turns.invariant.stand c.in-Ok-Some.ensures.counts;
}

pub returns-in-Err : goal.returns-in-Err
returns-in-Err g c = record {
  ends = λ start r. c.in-Err.ensures.err start (c.loop-turns.invariant.reached start r);
  only =
      OnlyPuts-trans (g.F.Folder.state c.args.folder.now) (g.F.Folder.state c.loop-turns.folder) (g.F.Folder.state c.next_turn.new.folder)
      (outputs_of (named c.args.words.now)) c.loop-turns.invariant.only c.in-Err.ensures.only;
  counts =
      stop-earlier (g.F.Folder.state c.args.folder.now) (g.F.Folder.state c.loop-turns.folder) (g.F.Folder.state c.next_turn.new.folder)
      (inputs_of (named c.args.words.now)) (outputs_of (named c.args.words.now)) c.in-Err.stop c.loop-turns.invariant.stand
      c.in-Err.ensures.counts;
}
