use Rattle.link_run.proofs.Reading.{begins_unoffered, hearing_stays_offered, speaking_stays_offered, offers_what_is_read, segments_are_told}
use Rattle.link_run.proofs.Reading.{own_segments_stay}
use Rattle.link_run.proofs.laws.segments_are_offered_as_they_are_read.Goals as goal

pub returns : goal.returns
returns c = assumption (
  begins_unoffered,
  hearing_stays_offered c.reads_allowed.ensures c.keeps_taken.ensures,
  speaking_stays_offered,
  offers_what_is_read,
  segments_are_told,
  own_segments_stay,
)
