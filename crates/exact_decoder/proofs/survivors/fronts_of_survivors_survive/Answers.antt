use Rattle.exact_decoder.proofs.Surviving.Fronts.{fronts-survive}
use Rattle.exact_decoder.proofs.survivors.fronts_of_survivors_survive.Goals as goal

pub returns : goal.returns
returns c = λ t samples more labels end s. fronts-survive t samples more labels end s
