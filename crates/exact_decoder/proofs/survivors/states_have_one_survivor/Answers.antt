use Rattle.exact_decoder.proofs.Surviving.Release.{survivor-one}
use Rattle.exact_decoder.proofs.survivors.states_have_one_survivor.Goals as goal

pub returns : goal.returns
returns c = λ t samples a b state h k. survivor-one t samples a b state h k
