use Rattle.line_tap.proofs.Completing.{completes-of}
use Rattle.line_tap.proofs.promises.right_taps_are_told.Goals as goal

pub returns : goal.returns
returns c = completes-of c.recordings_tell_once.ensures c.one_answer.ensures.scripts c.one_answer.ensures.apart
