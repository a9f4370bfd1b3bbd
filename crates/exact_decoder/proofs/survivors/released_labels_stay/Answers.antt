use Rattle.exact_decoder.proofs.Surviving.Fronts.{stays-prefix}
use Rattle.exact_decoder.proofs.survivors.released_labels_stay.Goals as goal

pub returns : goal.returns
returns c = λ t samples more front later r s. stays-prefix t samples more front later r s
