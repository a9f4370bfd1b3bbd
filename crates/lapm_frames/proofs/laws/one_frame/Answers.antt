use Rattle.lapm_frames.proofs.Spellings.{frames-one}
use Rattle.lapm_frames.proofs.laws.one_frame.Goals as goal

pub returns : goal.returns
returns c = frames-one
