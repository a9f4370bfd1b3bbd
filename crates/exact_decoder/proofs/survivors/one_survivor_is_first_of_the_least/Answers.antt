use Rattle.exact_decoder.proofs.Surviving.Release.{first-least-once}
use Rattle.exact_decoder.proofs.survivors.one_survivor_is_first_of_the_least.Goals as goal

pub returns : goal.returns
returns c = λ t samples a b h k. first-least-once t samples a b h k
