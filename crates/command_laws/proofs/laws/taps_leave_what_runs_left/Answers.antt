use Rattle.command_laws.proofs.Tapping.{taps-leave}
use Rattle.command_laws.proofs.laws.taps_leave_what_runs_left.Goals as goal

pub returns : goal.returns
returns c = taps-leave (record {
  tell = c.recordings_tell_runs.ensures;
  octets = c.octets_are_sendable.ensures;
  codable = c.slots_have_room.ensures.codable;
  play = c.scripts_make_links.ensures.ends;
  delays = c.scripts_make_links.ensures.delays;
  passed = c.runs_leave_prefixes.ensures.passed;
  breaks = c.spelled_scripts_are_in_limits.ensures.breaks;
})
