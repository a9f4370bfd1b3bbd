use Rattle.exact_decoder.proofs.Surviving.Fronts.{lost-once, lost-stays}
use Rattle.exact_decoder.proofs.survivors.lines_are_lost_once.Goals as goal

pub returns : goal.returns
returns c = record {
  once = λ t depth samples a b h k. lost-once t depth samples a b h k;
  stays = λ t depth samples more symbol h. lost-stays t depth samples more symbol h;
}
