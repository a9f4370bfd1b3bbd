use Rattle.trace_audit.proofs.Cited.{sym, ◌∙◌, ap, Ok, Err, Bool, written, turn_of}
use Rattle.line_world.specs.Turn.{turns_made}
use Rattle.trace_audit.proofs.Turning.{LineLaws, made, stops-reading, end-counts, going-step}
use Rattle.trace_audit.proofs.watching.make_turn.Goals as goal

pub returns-in-Ok-clause-made : goal.returns-in-Ok-clause-made
returns-in-Ok-clause-made g c = λ before s.
    let laws : LineLaws = record {
      turns = c.traces_are_read.ensures.turns;
      chances = c.traces_are_read.ensures.chances;
      texts = record {
        turn = c.traces_have_lines.ensures.turn;
        trace = c.traces_have_lines.ensures.trace;
        chance = c.traces_have_lines.ensures.chance;
      };
    } in
    let w = c.args.world.now in
    let v = c.watch_turn-step.new.world in
    let watching = c.watch_turn-step.result in
    made laws w v _ _ (written c.args.names.now) watching.0 watching.1 c.in-Ok.goes_on c.requires.apart c.requires.ready.limits
    c.requires.asks c.watch_turn-step.ensures.script (c.turns_are_few.ensures w c.requires.ready)
    c.watch_turn-step.ensures.watched (sym c.step_end.ensures ∙ c.in-Ok.is) before s

pub returns-in-Ok-clause-ready : goal.returns-in-Ok-clause-ready
returns-in-Ok-clause-ready g c = λ on.
    c.watch_turn-step.ensures.ready
    (going-step c.watch_turn-step.result.0 (sym c.step_end.ensures ∙ c.in-Ok.is ∙ ap (λ (b : Bool). Ok b) on))

pub returns-in-Ok-clause-counts : goal.returns-in-Ok-clause-counts
returns-in-Ok-clause-counts g c =
    let watching = c.watch_turn-step.result in
    end-counts c.args.world.now c.watch_turn-step.new.world (g.F.Folder.state c.args.folder.now)
    (g.F.Folder.state c.watch_turn-step.new.folder) (written c.args.names.now) watching.1 watching.0 (Ok c.in-Ok.goes_on)
    c.watch_turn-step.ensures.watched (sym c.step_end.ensures ∙ c.in-Ok.is)

pub returns-in-Ok-clause-number : goal.returns-in-Ok-clause-number
returns-in-Ok-clause-number g c = λ on.
    c.watch_turn-step.ensures.number
    ∙ ap (turns_made (turn_of c.args.world.now))
    (going-step c.watch_turn-step.result.0 (sym c.step_end.ensures ∙ c.in-Ok.is ∙ ap (λ (b : Bool). Ok b) on))

pub returns-in-Err-clause-stops : goal.returns-in-Err-clause-stops
returns-in-Err-clause-stops g c =
    let watching = c.watch_turn-step.result in
    stops-reading c.args.world.now c.watch_turn-step.new.world (g.F.Folder.state c.args.folder.now)
    (g.F.Folder.state c.watch_turn-step.new.folder) (written c.args.names.now) watching.1 watching.0 (Err c.in-Err.stop)
    c.watch_turn-step.ensures.watched (sym c.step_end.ensures ∙ c.in-Err.is)

pub returns-in-Err-clause-counts : goal.returns-in-Err-clause-counts
returns-in-Err-clause-counts g c =
    let watching = c.watch_turn-step.result in
    end-counts c.args.world.now c.watch_turn-step.new.world (g.F.Folder.state c.args.folder.now)
    (g.F.Folder.state c.watch_turn-step.new.folder) (written c.args.names.now) watching.1 watching.0 (Err c.in-Err.stop)
    c.watch_turn-step.ensures.watched (sym c.step_end.ensures ∙ c.in-Err.is)
