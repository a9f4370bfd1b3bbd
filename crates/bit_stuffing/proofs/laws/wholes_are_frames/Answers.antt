use Rattle.bit_stuffing.proofs.Sent.{all-expected}
use Rattle.bit_stuffing.proofs.laws.wholes_are_frames.Goals as goal

pub returns : goal.returns
returns c = record {
  frames = λ size slots are. (all-expected size slots are).octets;
  others = λ size slots are. (all-expected size slots are).pieces;
}
