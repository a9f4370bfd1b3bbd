use Rattle.bit_stuffing.proofs.OneFrame.{one-frame}
use Rattle.bit_stuffing.proofs.laws.one_frame.Goals as goal

pub returns : goal.returns
returns c = one-frame
