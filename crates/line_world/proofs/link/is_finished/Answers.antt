use Rattle.line_world.proofs.Cited.{not, ◌&&◌, ◌||◌, length, ap, ◌∙◌, Option, is_done, break_waits, BreakLine, is_ready}
use Rattle.line_world.proofs.Linking.{next-is}
use Rattle.line_world.proofs.link.is_finished.Goals as goal

pub returns : goal.returns
returns c = λ files file a h. c.is_finished.ensures file a h
    ∙ ap (λ (n : Option BreakLine). is_done a && not (break_waits a || is_ready c.args.turn n))
    (next-is c.scripts_make_links.ensures.breaks c.args.script.now c.args.role c.breaks.result
    (length a.own_breaks.lengths) c.break_line.result c.break_line.ensures (c.breaks.ensures file a h))
