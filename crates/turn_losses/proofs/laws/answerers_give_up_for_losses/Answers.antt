use Rattle.turn_losses.proofs.Numbering.{Plays}
use Rattle.turn_losses.proofs.Parting.{answerer-wants-answer}
use Rattle.turn_losses.proofs.laws.answerers_give_up_for_losses.Goals as goal

pub returns : goal.returns
returns c =
    let laws : Plays = assumption (
      c.runs_are_plays.ensures.runs,
      c.runs_are_plays.ensures.hearings,
      c.plays.ensures.in_order,
      c.acknowledgements.ensures.taken,
      c.frames_tell_how_far_ends_are.ensures.agrees,
    ) in
    answerer-wants-answer laws c.reads_written.ensures.read c.connected_answerers_give_up_for_losses.ensures
