use Rattle.line_run.proofs.Patterns.{ArePlain}
use Rattle.line_run.proofs.Recordings.{recorded-some, slots-recorded}
use Rattle.line_run.proofs.direction.each_list_of_fours_is_recorded.Goals as goal

pub returns : goal.returns
returns c =
    let plain : ArePlain = record { patterns = c.patterns_are_plain.ensures.patterns; marks = c.patterns_are_plain.ensures.marks } in
    record { bits = recorded-some; slots = slots-recorded plain }
