use Rattle.line_run.proofs.Leaving.{RunLaws, leave_prefixes, leaves_whole, leave_what_passed}
use Rattle.line_run.proofs.laws.runs_leave_prefixes.Goals as goal

pub returns : goal.returns
returns c =
    let laws : RunLaws = assumption (
      c.prefixes.ensures.takes,
      c.prefixes.ensures.hears,
      c.done_is_whole.ensures,
      c.what_passed_is_taken.ensures.takes,
      c.what_passed_is_taken.ensures.hears,
      c.samples_are_carried.ensures.runs,
      c.samples_are_carried.ensures.turn,
    ) in
    record { prefixes = leave_prefixes laws; whole = leaves_whole laws; passed = leave_what_passed laws }
