use Rattle.line_world.proofs.Cited.{◌+◌, subst, Account, after_busy, Stands}
use Rattle.stations.proofs.Standing.{counted-later}
use Rattle.line_world.proofs.Linking.{asks-so, asks-none}
use Rattle.line_world.proofs.link.serve.Goals as goal

pub ask-requires-clause-counted : goal.ask-requires-clause-counted
ask-requires-clause-counted c = c.set_busy.ensures.counted (c.args.turn + 1) c.args.turn c.requires.counted

pub returns-then-not-released-clause-stands : goal.returns-then-not-released-clause-stands
returns-then-not-released-clause-stands c = λ file a h.
    let told : Stands c.set_busy.new.self file (after_busy c.busy.result a) = c.set_busy.ensures.stands file a h in
    subst (λ (b : Account). Stands c.ask.new.self file b)
    (asks-so c.scripts_make_links.ensures.breaks c.scripts_make_links.ensures.pauses c.args.script.now c.args.role c.args.turn
    c.args.released c.busy.result a c.breaks.result c.break_line-next.result c.break_line-next.ensures
    (c.breaks.ensures file (after_busy c.busy.result a) told) c.busy.ensures c.if-not-released.true)
    (c.ask.ensures.stands file (after_busy c.busy.result a) told)

pub returns-else-not-released-clause-stands : goal.returns-else-not-released-clause-stands
returns-else-not-released-clause-stands c = λ file a h. subst (λ (b : Account). Stands c.set_busy.new.self file b)
    (asks-none c.scripts_make_links.ensures.pauses c.args.script.now c.args.role c.args.turn c.args.released c.busy.result a c.busy.ensures
    c.if-not-released.false) (c.set_busy.ensures.stands file a h)

pub returns-else-not-released-clause-counted : goal.returns-else-not-released-clause-counted
returns-else-not-released-clause-counted c =
    counted-later c.set_busy.new.self (c.args.turn + 1) c.args.turn
    (c.set_busy.ensures.counted (c.args.turn + 1) c.args.turn c.requires.counted)
