use Rattle.line_run.proofs.Patterns.{ArePlain}
use Rattle.line_run.proofs.OneSent.{one-sent}
use Rattle.line_run.proofs.direction.slots_tell_what_was_sent.Goals as goal

pub returns : goal.returns
returns c =
    let plain : ArePlain = record { patterns = c.patterns_are_plain.ensures.patterns; marks = c.patterns_are_plain.ensures.marks } in
    one-sent plain
