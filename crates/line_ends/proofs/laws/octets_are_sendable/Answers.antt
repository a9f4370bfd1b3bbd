use Rattle.line_ends.proofs.Sending.{SendLaws, octets-are-sendable}
use Rattle.line_ends.proofs.laws.octets_are_sendable.Goals as goal

pub returns : goal.returns
returns c =
    let laws : SendLaws = assumption (
      c.scripts_make_links.ensures.ends,
      c.scripts_make_links.ensures.delays,
      c.samples_are_carried.ensures.runs,
      c.samples_are_carried.ensures.turn,
      c.frames_are_short.ensures,
      c.is_spelled_back.ensures,
      c.segments_are_offered_as_they_are_read.ensures.begins,
      c.segments_are_offered_as_they_are_read.ensures.heard,
      c.segments_are_offered_as_they_are_read.ensures.spoken,
      c.segments_are_offered_as_they_are_read.ensures.next,
      c.segments_are_offered_as_they_are_read.ensures.own,
    ) in
    octets-are-sendable laws
