use Rattle.turn_losses.proofs.Numbering.{Plays}
use Rattle.turn_losses.proofs.Wanting.{originator-wants, originator-starved}
use Rattle.turn_losses.proofs.laws.connected_originators_give_up_for_losses.Goals as goal

pub returns : goal.returns
returns c =
    let laws : Plays = assumption (
      c.runs_are_plays.ensures.runs,
      c.runs_are_plays.ensures.hearings,
      c.plays.ensures.in_order,
      c.acknowledgements.ensures.taken,
      c.frames_tell_how_far_ends_are.ensures.agrees,
    ) in
    assumption (originator-wants laws c.ends_stand_together.ensures, originator-starved laws c.ends_stand_together.ensures)
