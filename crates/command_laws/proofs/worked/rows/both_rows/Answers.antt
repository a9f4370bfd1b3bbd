use Rattle.command_laws.proofs.Computing.{rows-hold}
use Rattle.command_laws.proofs.worked.rows.both_rows.Goals as goal

pub returns : goal.returns
returns c = rows-hold (record {
  links = record {
    clear = record {
      never_lost = c.faint_lines_are_never_lost.ensures.never;
      received = c.what_is_received_of_faint_lines_is_sent.ensures.nothing_else;
      all = c.what_is_received_of_faint_lines_is_sent.ensures.all;
      never_chance = c.heard_is_sent.ensures.never_chance;
      recorded = c.each_list_of_fours_is_recorded.ensures.slots;
      one = c.one_outcome.ensures.outcome;
    };
    play = c.scripts_make_links.ensures.ends;
    delays = c.scripts_make_links.ensures.delays;
    carried = c.samples_are_carried.ensures.runs;
    codable = c.slots_have_room.ensures.codable;
    octets = c.octets_are_sendable.ensures;
    judges = c.numbers_have_the_agreed_check.ensures.judges;
  };
  faint = c.undisplaced_runs_have_faint_noise.ensures;
  computed = c.computed_runs_are_runs.ensures;
  one = c.one_result.ensures;
  isolated = c.pairs_are_isolated.ensures.undisplaced;
  ends = c.pairs_end.ensures;
}) c.both_runs.ensures.ends.0 c.both_runs.ensures.ends.1
