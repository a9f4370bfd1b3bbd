use Rattle.line_run.proofs.Cited.{IsFaintBefore}
use Rattle.line_run.proofs.Patterns.{AreSeen}
use Rattle.line_run.proofs.Heard.{received-where, sent-where, heard-where, passes-where, faint}
use Rattle.line_run.proofs.direction.what_is_received_of_faint_lines_is_sent.Goals as goal

pub returns : goal.returns
returns c =
    let seen : AreSeen = assumption (
      c.patterns_are_plain.ensures.patterns,
      c.patterns_are_plain.ensures.marks,
      c.sights_stay.ensures,
      c.seen_is_sent.ensures,
    ) in
    assumption (
      received-where IsFaintBefore 215 504 faint seen,
      sent-where IsFaintBefore 215 504 faint seen,
      heard-where IsFaintBefore 215 504 faint seen,
      passes-where IsFaintBefore 215 504 faint seen,
    )
