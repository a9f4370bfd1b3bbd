use Rattle.line_world.proofs.Cited.{◌∙◌, [], ◌∷◌, ◌++◌, sym, refl, subst, rules, Written, inputs_of, outputs_of, written, Tapes, tapes_of}
use Rattle.line_world.proofs.Cited.{wire_of, HoldTapes, HoldTapesPartly, KeepTapes, tape_names, FaultCountsOver, script_of, ScriptValue}
use Rattle.line_world.proofs.Cited.{OnlyPuts-trans, CountsStand-trans, FolderState, AreApart, KeepsEach, OnlyPuts}
use Rattle.line_world.proofs.Reached.{reached-start, reached-going, reached-put, reached-taping, reached-done, reached-counts}
use Rattle.line_world.proofs.Reached.{reached-fault, nearer, next-turn, tapes-kept, apart-outputs}
use Rattle.line_world.proofs.Several.{puts-front, puts-behind, apart-behind}
use Rattle.line_world.proofs.Folders.{counts-later, counts-front, counts-behind}
use Rattle.line_world.proofs.Taping.{keep-holds, keep-later, hold-later}
use Rattle.line_world.proofs.turns.run_turns.Goals as goal

pub loop-tapes-init : goal.loop-tapes-init
unfolding reached-start
loop-tapes-init g c = record {
  reached = reached-start c.args.world.now (written c.args.names.now) (tape_names c.args.tapes.now)
      (g.F.Folder.state c.args.folder.now) c.requires.first c.requires.created;
  named = refl;
  taped = c.requires.taped;
  ready = c.requires.ready;
  came = g.met.F.Folder.came_none _;
}

pub record_turn-requires : goal.record_turn-requires
record_turn-requires g c = record {
  apart = subst (λ (names : Tapes). AreApart (tapes_of names)) (sym c.loop-tapes.invariant.named)
      (apart-behind (outputs_of (written c.args.names.now)) (tapes_of (tape_names c.args.tapes.now)) c.requires.apart.0);
}

pub loop-tapes-smaller : goal.loop-tapes-smaller
loop-tapes-smaller g c =
    let n : Written = written c.args.names.now in
    let tapes : Tapes = tape_names c.args.tapes.now in
    let script : ScriptValue = script_of c.args.world.now in
    let r = c.loop-tapes.invariant.reached in
    nearer _ _ (c.turns_are_few.ensures c.loop-tapes.world c.loop-tapes.invariant.ready)
    (next-turn c.loop-tapes.world c.turn.new.self script n tapes _ _ _ r
    ((rw c.in-Ok-Going.field-0-is at c.in-Ok-Going.ensures.turn) r.files r.turns r.ends r.world r.knows.within))

pub loop-tapes-preserved : goal.loop-tapes-preserved
unfolding reached-going reached-put
loop-tapes-preserved g c =
    let now : FolderState = g.F.Folder.state c.loop-tapes.folder in
    let next : FolderState = g.F.Folder.state c.turn.new.folder in
    let n : Written = written c.args.names.now in
    let tapes : Tapes = tape_names c.args.tapes.now in
    let script : ScriptValue = script_of c.args.world.now in
    let r = c.loop-tapes.invariant.reached in
    let last : FolderState = g.F.Folder.state c.record_turn.new.folder in
    let going = (rw c.in-Ok-Going.field-0-is at c.in-Ok-Going.ensures.turn) r.files r.turns r.ends r.world r.knows.within in
    let puts : OnlyPuts next last (tapes_of tapes) =
    subst (λ (names : Tapes). OnlyPuts next last (tapes_of names)) c.loop-tapes.invariant.named c.in-Ok.ensures.only in
    let kept : KeepTapes c.loop-tapes.tapes next (wire_of (script_of c.turn.new.self)) r.turns =
    subst (λ (s : ScriptValue). KeepTapes c.loop-tapes.tapes next (wire_of s) r.turns) (sym (c.in-Ok-Going.ensures.script ∙ r.script_is))
    (keep-later c.loop-tapes.tapes now next (wire_of script) r.turns c.in-Ok-Going.ensures.only.goes_on
    (subst (λ (names : Tapes). KeepsEach now next (tapes_of names)) (sym c.loop-tapes.invariant.named)
    (tapes-kept now next n tapes c.requires.apart c.in-Ok-Going.ensures.only)) c.loop-tapes.invariant.taped) in
    record {
      reached = reached-put c.turn.new.self script n tapes _ next last c.requires.apart
          (reached-going c.turns_deliver_what_came.ensures.hearing c.turns_deliver_what_came.ensures.speaking c.loop-tapes.world
          c.turn.new.self script n tapes _ now next r c.in-Ok-Going.ensures.script going c.in-Ok-Going.ensures.only
          c.in-Ok-Going.ensures.counts) puts c.in-Ok.ensures.counts;
      named = c.in-Ok.ensures.names ∙ c.loop-tapes.invariant.named;
      taped = subst (λ (s : ScriptValue). KeepTapes c.record_turn.new.tapes last (wire_of s) (going.turn ∷ r.turns))
          (c.in-Ok-Going.ensures.script ∙ r.script_is)
          (c.in-Ok.ensures.records going.others r.turns going.turn going.after (record { modems = going.modems; lines = going.lines })
          kept);
      ready = (rw c.in-Ok-Going.field-0-is at c.in-Ok-Going.ensures.ready) refl;
      came = g.met.F.Folder.came_on _ _ _ (g.met.F.Folder.came_on _ _ _ c.loop-tapes.invariant.came c.in-Ok-Going.ensures.came)
          c.in-Ok.ensures.came;
    }

pub returns-in-Err-record_turn : goal.returns-in-Err-record_turn
returns-in-Err-record_turn g c =
    let now : FolderState = g.F.Folder.state c.loop-tapes.folder in
    let next : FolderState = g.F.Folder.state c.turn.new.folder in
    let n : Written = written c.args.names.now in
    let tapes : Tapes = tape_names c.args.tapes.now in
    let script : ScriptValue = script_of c.args.world.now in
    let r = c.loop-tapes.invariant.reached in
    let last : FolderState = g.F.Folder.state c.record_turn.new.folder in
    let puts : OnlyPuts next last (tapes_of tapes) =
    subst (λ (names : Tapes). OnlyPuts next last (tapes_of names)) c.loop-tapes.invariant.named c.in-Err-record_turn.ensures.only in
    record {
      run =
          let going = (rw c.in-Ok-Going.field-0-is at c.in-Ok-Going.ensures.turn) r.files r.turns r.ends r.world r.knows.within in
          let kept : KeepTapes c.loop-tapes.tapes next (wire_of (script_of c.turn.new.self)) r.turns =
          subst (λ (s : ScriptValue). KeepTapes c.loop-tapes.tapes next (wire_of s) r.turns)
          (sym (c.in-Ok-Going.ensures.script ∙ r.script_is))
          (keep-later c.loop-tapes.tapes now next (wire_of script) r.turns c.in-Ok-Going.ensures.only.goes_on
          (subst (λ (names : Tapes). KeepsEach now next (tapes_of names)) (sym c.loop-tapes.invariant.named)
          (tapes-kept now next n tapes c.requires.apart c.in-Ok-Going.ensures.only)) c.loop-tapes.invariant.taped) in
          let partly : HoldTapesPartly last tapes (wire_of (script_of c.turn.new.self)) r.turns going.turn =
          subst (λ (names : Tapes). HoldTapesPartly last names (wire_of (script_of c.turn.new.self)) r.turns going.turn)
          (c.in-Err-record_turn.ensures.names ∙ c.loop-tapes.invariant.named)
          (c.in-Err-record_turn.ensures.records going.others r.turns going.turn going.after
          (record { modems = going.modems; lines = going.lines }) kept) in
          reached-taping c.loop-tapes.world c.turn.new.self script n tapes _ now next last c.in-Err-record_turn.fault r c.requires.apart
          c.in-Ok-Going.ensures.script going c.in-Ok-Going.ensures.only puts c.in-Err-record_turn.ensures.write partly;
      tally = search rules;
      only =
          OnlyPuts-trans _ next last (outputs_of n ++ tapes_of tapes) (OnlyPuts-trans _ now next (outputs_of n ++ tapes_of tapes) r.only
          (puts-front now next (outputs_of n) (tapes_of tapes) c.in-Ok-Going.ensures.only))
          (puts-behind next last (outputs_of n) (tapes_of tapes) puts);
      counts =
          counts-behind _ next last (inputs_of n) (outputs_of n) (tapes_of tapes) c.in-Err-record_turn.fault
          c.in-Err-record_turn.ensures.write (CountsStand-trans r.stand c.in-Ok-Going.ensures.counts)
          (subst (λ (names : Tapes). FaultCountsOver next last [] (tapes_of names) c.in-Err-record_turn.fault) c.loop-tapes.invariant.named
          c.in-Err-record_turn.ensures.counts);
      came =
          g.met.F.Folder.came_on _ _ _ (g.met.F.Folder.came_on _ _ _ c.loop-tapes.invariant.came c.in-Ok-Going.ensures.came)
          c.in-Err-record_turn.ensures.came;
    }

pub returns-in-Ok-Done : goal.returns-in-Ok-Done
returns-in-Ok-Done g c =
    let now : FolderState = g.F.Folder.state c.loop-tapes.folder in
    let next : FolderState = g.F.Folder.state c.turn.new.folder in
    let n : Written = written c.args.names.now in
    let tapes : Tapes = tape_names c.args.tapes.now in
    let script : ScriptValue = script_of c.args.world.now in
    let r = c.loop-tapes.invariant.reached in
    let held : HoldTapes next tapes (wire_of script) r.turns =
    hold-later tapes now next (wire_of script) r.turns c.in-Ok-Done.ensures.only.goes_on
    (tapes-kept now next n tapes c.requires.apart c.in-Ok-Done.ensures.only)
    (subst (λ (names : Tapes). HoldTapes now names (wire_of script) r.turns) c.loop-tapes.invariant.named
    (keep-holds c.loop-tapes.tapes now (wire_of script) r.turns c.loop-tapes.invariant.taped)) in
    record {
      run =
          reached-done c.turns_deliver_what_came.ensures.hearing c.loop-tapes.world c.turn.new.self script n tapes _ now next r
          c.in-Ok-Done.ensures.script c.in-Ok-Done.ensures.only held c.in-Ok-Done.turn
          ((rw c.in-Ok-Done.field-0-is at c.in-Ok-Done.ensures.turn) r.files r.turns r.ends r.world r.knows.within);
      tally =
          reached-counts c.turns_deliver_what_came.ensures.hearing c.loop-tapes.world c.turn.new.self script n tapes _ now next r
          c.in-Ok-Done.ensures.script c.in-Ok-Done.ensures.only held c.in-Ok-Done.turn
          ((rw c.in-Ok-Done.field-0-is at c.in-Ok-Done.ensures.turn) r.files r.turns r.ends r.world r.knows.within);
      only =
          OnlyPuts-trans _ now next (outputs_of n ++ tapes_of tapes) r.only
          (puts-front now next (outputs_of n) (tapes_of tapes) c.in-Ok-Done.ensures.only);
      counts = CountsStand-trans c.loop-tapes.invariant.reached.stand c.in-Ok-Done.ensures.counts;
      came = g.met.F.Folder.came_on _ _ _ c.loop-tapes.invariant.came c.in-Ok-Done.ensures.came;
    }

pub returns-in-Err : goal.returns-in-Err
returns-in-Err g c =
    let now : FolderState = g.F.Folder.state c.loop-tapes.folder in
    let next : FolderState = g.F.Folder.state c.turn.new.folder in
    let n : Written = written c.args.names.now in
    let tapes : Tapes = tape_names c.args.tapes.now in
    let script : ScriptValue = script_of c.args.world.now in
    let r = c.loop-tapes.invariant.reached in
    let old : FolderState = g.F.Folder.state c.args.folder.now in
    record {
      run =
          let held : HoldTapes next tapes (wire_of script) r.turns =
          hold-later tapes now next (wire_of script) r.turns c.in-Err.ensures.only.goes_on
          (tapes-kept now next n tapes c.requires.apart c.in-Err.ensures.only)
          (subst (λ (names : Tapes). HoldTapes now names (wire_of script) r.turns) c.loop-tapes.invariant.named
          (keep-holds c.loop-tapes.tapes now (wire_of script) r.turns c.loop-tapes.invariant.taped)) in
          reached-fault c.turns_deliver_what_came.ensures.hearing c.loop-tapes.world c.turn.new.self script n tapes old now next r
          c.in-Err.ensures.script c.in-Err.ensures.only held c.in-Err.fault (apart-outputs n tapes c.requires.apart)
          (c.in-Err.ensures.turn r.files r.turns r.ends r.world r.knows.within);
      tally = search rules;
      only =
          OnlyPuts-trans old now next (outputs_of n ++ tapes_of tapes) r.only
          (puts-front now next (outputs_of n) (tapes_of tapes) c.in-Err.ensures.only);
      counts =
          counts-front old next (inputs_of n) (outputs_of n) (tapes_of tapes) c.in-Err.fault
          (counts-later old now next n c.in-Err.fault r.stand c.in-Err.ensures.counts);
      came = g.met.F.Folder.came_on _ _ _ c.loop-tapes.invariant.came c.in-Err.ensures.came;
    }
