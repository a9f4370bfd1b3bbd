use Rattle.turn_losses.proofs.Names.{GivesUpForLosses}
use Rattle.turn_losses.proofs.GivingUp.{gives-up, gives-up-unbroken}
use Rattle.turn_losses.proofs.laws.ends_give_up_for_losses.Goals as goal

pub returns : goal.returns
returns c =
    let law : GivesUpForLosses = gives-up (assumption (
      c.each_turn_is_made.ensures.named,
      c.connected_originators_give_up_for_losses.ensures.each_period,
      c.connected_originators_give_up_for_losses.ensures.starved,
      c.patterns_are_missed_for_losses.ensures.each_period,
      c.patterns_are_missed_for_losses.ensures.starved,
      c.originators_give_up_frames_for_losses.ensures,
      c.answerers_give_up_for_losses.ensures,
    )) in
    record { waiting_for_none = law; asked_for_none = gives-up-unbroken law }
