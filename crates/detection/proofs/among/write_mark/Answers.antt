use Rattle.detection.proofs.Names.{◌∙◌, refl, line_bits}
use Rattle.detection.proofs.Wholes.{whole-slot}
use Rattle.detection.proofs.among.write_mark.Goals as goal

pub returns-clause-stands : goal.returns-clause-stands
returns-clause-stands c = λ slots start. c.restart.ensures.stands slots _ start

pub returns-clause-count : goal.returns-clause-count
returns-clause-count c = whole-slot c.mark_slot.new.out (line_bits c.mark_slot.new.out) c.args.symbols refl c.mark_slot.ensures.plain.full
    ∙ c.requires.symbols
