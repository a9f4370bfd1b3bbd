use Rattle.line_run.proofs.Cited.{arith}
use Rattle.line_run.proofs.Patterns.{ArePlain}
use Rattle.line_run.proofs.Fits.{fit-front, fit-more, fit-slots, length-fit}
use Rattle.line_run.proofs.direction.slots_that_fit_follow_one_another.Goals as goal

pub returns : goal.returns
returns c =
    let plain : ArePlain = record { patterns = c.patterns_are_plain.ensures.patterns; marks = c.patterns_are_plain.ensures.marks } in
    grind (arith, fit-front, fit-more, fit-slots, length-fit)
