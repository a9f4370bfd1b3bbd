use Rattle.line_ends.proofs.Starving.{Laws, lost-links-were-starved, ends-have-causes}
use Rattle.line_ends.proofs.laws.lost_links_were_starved.Goals as goal

pub returns : goal.returns
returns c =
    let laws : Laws = assumption (
      c.scripts_make_links.ensures.ends,
      c.scripts_make_links.ensures.delays,
      c.scripts_keep_time.ensures,
      c.samples_are_carried.ensures.runs,
      c.samples_are_carried.ensures.turn,
      c.ends_give_up_for_losses.ensures.waiting_for_none,
      c.ends_give_up_for_losses.ensures.asked_for_none,
      c.patterns_are_missed_for_losses.ensures.each_period,
      c.ends_give_up_starved.ensures,
      c.patterns_are_missed_for_losses.ensures.on_time,
      c.done_is_whole.ensures,
      c.turns_deliver_what_came.ensures.heard_breaks,
    ) in
    record { starved = lost-links-were-starved laws; causes = ends-have-causes laws }
