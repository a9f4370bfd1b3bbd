use Rattle.link_run.proofs.Overhearing.{KnowingLaws, opens_by_frames, segments_pass_later, agrees_by_xid}
use Rattle.link_run.proofs.laws.frames_tell_how_far_ends_are.Goals as goal

pub returns : goal.returns
returns c =
    let laws : KnowingLaws =
    record { reads = c.reads_allowed.ensures; keeps = c.keeps_taken.ensures; written = c.reads_written.ensures.read } in
    record { opens = opens_by_frames laws; segments = segments_pass_later laws; agrees = agrees_by_xid laws }
