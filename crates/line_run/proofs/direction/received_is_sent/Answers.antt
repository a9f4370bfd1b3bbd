use Rattle.line_run.proofs.Cited.{DisplacesNoneBefore}
use Rattle.line_run.proofs.Patterns.{AreSeen}
use Rattle.line_run.proofs.Heard.{received-where, sent-where, undisplaced}
use Rattle.line_run.proofs.direction.received_is_sent.Goals as goal

pub returns : goal.returns
returns c =
    let seen : AreSeen = assumption (
      c.patterns_are_plain.ensures.patterns,
      c.patterns_are_plain.ensures.marks,
      c.sights_stay.ensures,
      c.seen_is_sent.ensures,
    ) in
    assumption (received-where DisplacesNoneBefore 138 96 undisplaced seen, sent-where DisplacesNoneBefore 138 96 undisplaced seen)
