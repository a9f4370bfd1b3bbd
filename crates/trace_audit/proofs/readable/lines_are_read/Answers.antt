use Rattle.trace_audit.proofs.Cited.{SendLaws}
use Rattle.trace_audit.proofs.Reading.{lines-are-read}
use Rattle.trace_audit.proofs.readable.lines_are_read.Goals as goal

pub returns : goal.returns
returns c =
    let laws : SendLaws = record {
      play = c.scripts_make_links.ensures.ends;
      delays = c.scripts_make_links.ensures.delays;
      carried = c.samples_are_carried.ensures.runs;
      one = c.samples_are_carried.ensures.turn;
      short = c.frames_are_short.ensures;
      back = c.is_spelled_back.ensures;
      begins = c.segments_are_offered_as_they_are_read.ensures.begins;
      heard = c.segments_are_offered_as_they_are_read.ensures.heard;
      spoken = c.segments_are_offered_as_they_are_read.ensures.spoken;
      offers = record {
        next = c.segments_are_offered_as_they_are_read.ensures.next;
        own = c.segments_are_offered_as_they_are_read.ensures.own;
      };
    } in
    lines-are-read laws
