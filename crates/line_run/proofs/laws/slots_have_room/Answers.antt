use Rattle.line_run.proofs.Fitting.{slots_have_room, slots_are_codable}
use Rattle.line_run.proofs.laws.slots_have_room.Goals as goal

pub returns : goal.returns
returns c = assumption (
  slots_have_room,
  slots_are_codable c.codable_slots_fit.ensures.few c.codable_slots_fit.ensures.short c.frames_are_short.ensures,
)
