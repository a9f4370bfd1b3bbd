use Rattle.exact_decoder.proofs.Surviving.Least.{some-released}
use Rattle.exact_decoder.proofs.Surviving.Fronts.{released-once}
use Rattle.exact_decoder.proofs.survivors.one_list_is_released.Goals as goal

pub returns : goal.returns
returns c = record {
  some = λ t states labels steps laws samples. some-released t states labels steps samples laws;
  once = λ t samples a b h k. released-once t samples a b h k;
}
