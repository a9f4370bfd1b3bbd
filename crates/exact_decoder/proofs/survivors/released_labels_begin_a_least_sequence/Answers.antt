use Rattle.exact_decoder.proofs.Surviving.Least.{released-is_least}
use Rattle.exact_decoder.proofs.survivors.released_labels_begin_a_least_sequence.Goals as goal

pub returns : goal.returns
returns c = λ t states labels steps laws samples front r. released-is_least t states labels steps samples front laws r
