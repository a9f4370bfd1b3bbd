use Rattle.run_commands.proofs.Running.Headline.{headline-of}
use Rattle.run_commands.proofs.Names.{RunLaws}
use Rattle.run_commands.proofs.run.laws.answers_keep_the_headline.Goals as goal

pub returns : goal.returns
returns c =
    let laws : RunLaws = record {
      play = c.scripts_make_links.ensures.ends;
      delays = c.scripts_make_links.ensures.delays;
      carried = c.samples_are_carried.ensures.runs;
      one = c.samples_are_carried.ensures.turn;
      takes = c.prefixes.ensures.takes;
      hears = c.prefixes.ensures.hears;
      delivers = c.turns_deliver_what_came.ensures.hearing;
      prefixes = c.runs_leave_prefixes.ensures.prefixes;
      whole = c.runs_leave_prefixes.ensures.whole;
      passed = c.runs_leave_prefixes.ensures.passed;
      soon = c.line_runs_end_soon.ensures.soon;
      causes = c.lost_links_were_starved.ensures.causes;
      least = c.released_labels_begin_a_least_sequence.ensures;
    } in
    headline-of laws
