use Rattle.link_pair.proofs.Names.{RunLaws}
use Rattle.link_pair.proofs.Headline.{headline-of}
use Rattle.link_pair.proofs.Prefixes.{HeadLaws}
use Rattle.link_pair.proofs.laws.answers_keep_the_headline.Goals as goal

pub returns : goal.returns
returns c =
    let runs : RunLaws = record {
      play = c.scripts_make_links.ensures.ends;
      delays = c.scripts_make_links.ensures.delays;
      carried = c.samples_are_carried.ensures.runs;
      one = c.samples_are_carried.ensures.turn;
      takes = c.prefixes.ensures.takes;
      hears = c.prefixes.ensures.hears;
      delivers = c.turns_deliver_what_came.ensures.hearing;
      prefixes = c.runs_leave_prefixes.ensures.prefixes;
      whole = c.runs_leave_prefixes.ensures.whole;
      passed = c.runs_leave_prefixes.ensures.passed;
      soon = c.line_runs_end_soon.ensures.soon;
      causes = c.lost_links_were_starved.ensures.causes;
      least = c.released_labels_begin_a_least_sequence.ensures;
    } in
    let laws : HeadLaws = record {
      runs = runs;
      took = c.what_passed_is_taken.ensures.takes;
      prefixes = c.pairs_leave_prefixes.ensures.prefixes;
      whole = c.pairs_leave_prefixes.ensures.whole;
      isolated = c.pairs_are_isolated.ensures.faint;
      breaks = c.spelled_scripts_are_in_limits.ensures.breaks;
    } in
    headline-of laws
