use Rattle.std.proofs.Common.{arith}
use Rattle.exact_decoder.specs.Surviving.Trellises.{trellis_of}
use Rattle.exact_decoder.proofs.Surviving.Fronts.{lost-once, lost-stays}
use Rattle.exact_decoder.proofs.laws.lines_are_lost_once.Goals as goal

pub returns : goal.returns
returns g c = record {
  once = grind (arith, lost-once);
  stays = λ starts are depth samples more symbol h.
      lost-stays (trellis_of g.C.TrellisCode.table g.C.TrellisCode.points starts) depth samples more symbol h;
}
