use Rattle.line_world.proofs.Cited.{Bool, ◌&&◌, ap, sym, ◌∙◌, link_of, has_finished}
use Rattle.line_world.proofs.link.Link.are_finished.Goals as goal

pub returns-then-is_finished : goal.returns-then-is_finished
returns-then-is_finished c = λ files ends h.
    let link = link_of c.args.script.now files in
    c.is_finished-then-is_finished.ensures files files.answ ends.answ h.answ
    ∙ ap (λ (b : Bool). b && has_finished link.answ.user c.args.turn ends.answ) (sym c.if-is_finished.true
    ∙ c.is_finished.ensures files files.orig ends.orig h.orig)

pub returns-else-is_finished : goal.returns-else-is_finished
returns-else-is_finished c = λ files ends h.
    let link = link_of c.args.script.now files in
    c.if-is_finished.false
    ∙ ap (λ (b : Bool). b && has_finished link.answ.user c.args.turn ends.answ) (sym c.if-is_finished.false
    ∙ c.is_finished.ensures files files.orig ends.orig h.orig)
