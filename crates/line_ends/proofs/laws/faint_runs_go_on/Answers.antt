use Rattle.line_ends.proofs.Hearing.{HearLaws, faint-go-on}
use Rattle.line_ends.proofs.Undisturbed.{loses-what-is-named}
use Rattle.line_ends.proofs.laws.faint_runs_go_on.Goals as goal

pub returns : goal.returns
returns c =
    let laws : HearLaws = assumption (
      c.scripts_make_links.ensures.ends,
      c.scripts_make_links.ensures.delays,
      c.slots_have_room.ensures.room,
      c.slots_have_room.ensures.codable,
      c.samples_are_carried.ensures.runs,
      c.numbers_have_the_agreed_check.ensures.judges,
      c.faint_lines_are_never_lost.ensures.never,
      c.what_is_received_of_faint_lines_is_sent.ensures.nothing_else,
      c.heard_is_sent.ensures.never_chance,
      c.one_outcome.ensures.outcome,
    ) in
    record { goes_on = faint-go-on laws; loses = loses-what-is-named laws }
