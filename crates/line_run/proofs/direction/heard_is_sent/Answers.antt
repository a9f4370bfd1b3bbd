use Rattle.line_run.proofs.Cited.{DisplacesNoneBefore}
use Rattle.line_run.proofs.Patterns.{AreSeen}
use Rattle.line_run.proofs.Received.{never-chance}
use Rattle.line_run.proofs.Heard.{heard-where, passes-where, undisplaced}
use Rattle.line_run.proofs.direction.heard_is_sent.Goals as goal

pub returns : goal.returns
returns c =
    let seen : AreSeen = assumption (
      c.patterns_are_plain.ensures.patterns,
      c.patterns_are_plain.ensures.marks,
      c.sights_stay.ensures,
      c.seen_is_sent.ensures,
    ) in
    assumption (
      heard-where DisplacesNoneBefore 138 96 undisplaced seen,
      never-chance,
      passes-where DisplacesNoneBefore 138 96 undisplaced seen,
    )
