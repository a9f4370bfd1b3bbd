use Rattle.line_world.proofs.Cited.{◌∷◌, sym, ◌∙◌, subst, Result, written, wire_at, wire_of, both_sent_by, RunFault, AreDue, LinesWait}
use Rattle.line_world.proofs.Cited.{ModemsAfter, GoesOnBy, Step}
use Rattle.line_world.specs.Turn.{TurnAnswers}
use Rattle.line_world.proofs.Lending.{LoneLaws, alone, are-due, lends}
use Rattle.line_world.proofs.world.World.turn.Goals as goal

pub turn-requires-clause-ready : goal.turn-requires-clause-ready
turn-requires-clause-ready g c =
    let laws : LoneLaws = assumption in
    lends laws c.line_runs_end_soon.ensures.within_limits c.args.self.now c.requires.ready

-- a turn of the world is one of its link, on channel 0 and with nothing beside
answers : goal.returns-clause-turn
answers g c = λ files ts ends h within.
    let script = c.args.self.now.script in
    let laws : LoneLaws = assumption in
    let zero = c.requires.ready.channel in
    subst (λ n. TurnAnswers c.turn.new.self c.turn.new.lines (wire_at script n alone) 1 (both_sent_by 0 ts)
    (g.F.Folder.state c.args.folder.now) (g.F.Folder.state c.turn.new.folder) (written c.args.names.now) files ts ends c.turn.result) zero
    (c.turn.ensures.turn alone 1 (both_sent_by 0 ts) files ts ends
    (subst (λ n. ModemsAfter c.args.self.now.modems (wire_at script n alone) files ts ends) (sym zero) h.modems) within
    (subst (λ n. LinesWait c.args.self.now.lines (wire_at script n alone) 1 (both_sent_by 0 ts)) (sym zero) h.lines)
    (subst (λ n. AreDue (wire_at script n alone) 1 ts (both_sent_by 0 ts)) (sym zero)
    (are-due laws script files ts ends c.requires.ready.limits h.modems.run)))

pub returns-clause-turn : goal.returns-clause-turn
returns-clause-turn = answers

pub returns-clause-ready : goal.returns-clause-ready
unfolding answers
returns-clause-ready g c = λ going.
    let r = c.requires.ready in
    let script = c.args.self.now.script in
    let by : GoesOnBy c.turn.new.self c.turn.new.lines (wire_of script) 1 (both_sent_by 0 r.turns) (g.F.Folder.state c.args.folder.now)
    (g.F.Folder.state c.turn.new.folder) (written c.args.names.now) r.files r.turns r.ends =
    subst (λ (x : Result Step RunFault). TurnAnswers c.turn.new.self c.turn.new.lines (wire_of script) 1 (both_sent_by 0 r.turns)
    (g.F.Folder.state c.args.folder.now) (g.F.Folder.state c.turn.new.folder) (written c.args.names.now) r.files r.turns r.ends x) going
    (answers g c r.files r.turns r.ends r.after r.within) in
    record {
      limits = r.limits;
      channel = c.turn.ensures.channel ∙ r.channel;
      kept = c.turn.ensures.kept going;
      files = by.others;
      within = by.known.within;
      turns = by.turn ∷ r.turns;
      ends = by.after;
      after = record { modems = by.modems; lines = by.lines };
    }
