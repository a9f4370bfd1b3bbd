use Rattle.exact_decoder.proofs.Surviving.Existence.{reached-survives, some-survives}
use Rattle.exact_decoder.proofs.survivors.reached_states_have_survivors.Goals as goal

pub returns : goal.returns
returns c = record {
  each = λ t states labels steps laws samples sequence end q. reached-survives t states labels steps samples sequence end laws q;
  some = λ t states labels steps laws samples. some-survives t states labels steps samples laws;
}
