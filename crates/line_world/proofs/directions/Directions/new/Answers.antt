use Rattle.line_world.proofs.Cited.{◌*◌, sym, ◌∙◌, ap, wire_at, Originator, Answerer}
use Rattle.line_world.proofs.Waiting.{waits-first, waits-none}
use Rattle.line_world.proofs.directions.Directions.new.Goals as goal

pub returns : goal.returns
returns c = λ dlci beside.
    let channel = wire_at c.args.script.now dlci beside in
    let delays = c.scripts_make_links.ensures.delays c.args.script.now c.is_in_limits.ensures in
    waits-none c.in_ok-new.field-0 c.in_ok-new-2.field-0 channel c.args.links
    (waits-first c.in_ok-new.field-0 channel Originator c.args.links c.in_ok-new.ensures.stands c.in_ok-new.ensures.sender
    (c.in_ok-new.ensures.symbols ∙ c.slot_symbols-symbols.ensures.value) (c.in_ok-new.ensures.delay ∙ c.delay-delay_orig.ensures.value)
    (c.in_ok-new.ensures.lag ∙ ap (λ n. c.args.links * n) (sym c.in_ok-new.ensures.delay)) c.requires (delays Originator))
    (waits-first c.in_ok-new-2.field-0 channel Answerer c.args.links c.in_ok-new-2.ensures.stands c.in_ok-new-2.ensures.sender
    (c.in_ok-new-2.ensures.symbols ∙ c.slot_symbols-symbols.ensures.value) (c.in_ok-new-2.ensures.delay ∙ c.delay-delay_answ.ensures.value)
    (c.in_ok-new-2.ensures.lag ∙ ap (λ n. c.args.links * n) (sym c.in_ok-new-2.ensures.delay)) c.requires (delays Answerer))
