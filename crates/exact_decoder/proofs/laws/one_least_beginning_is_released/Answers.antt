use Rattle.exact_decoder.specs.Surviving.Trellises.{trellis_of}
use Rattle.exact_decoder.proofs.Surviving.Release.{first-least-once}
use Rattle.exact_decoder.proofs.Surviving.Fronts.{released-once, stays-prefix}
use Rattle.exact_decoder.proofs.Surviving.Least.{some-released, released-is_least}
use Rattle.exact_decoder.proofs.AnyCode.{IsCodeTable, has-laws}
use Rattle.exact_decoder.proofs.laws.one_least_beginning_is_released.Goals as goal

pub returns : goal.returns
returns g c =
    let code : IsCodeTable g.C.TrellisCode.table g.row.STATES g.row.LABELS g.C.TrellisCode.REACH =
    assumption (
      g.met.C.TrellisCode.bounded,
      g.met.C.TrellisCode.within,
      g.met.C.TrellisCode.enters_once,
      g.met.C.TrellisCode.reach_some,
      g.met.C.TrellisCode.reaches,
    ) in
    record {
      some = λ starts are samples. some-released (trellis_of g.C.TrellisCode.table g.C.TrellisCode.points starts) _ _ _ samples
          (has-laws _ _ _ _ _ code _ are);
      once = λ starts are samples a b h k. released-once (trellis_of g.C.TrellisCode.table g.C.TrellisCode.points starts) samples _ _ h k;
      stays = λ starts are samples more front later h k.
          stays-prefix (trellis_of g.C.TrellisCode.table g.C.TrellisCode.points starts) samples more _ _ h k;
      least = λ starts are samples front h.
          released-is_least (trellis_of g.C.TrellisCode.table g.C.TrellisCode.points starts) _ _ _ samples _
          (has-laws _ _ _ _ _ code _ are) h;
      first = λ starts are samples a b h k.
          first-least-once (trellis_of g.C.TrellisCode.table g.C.TrellisCode.points starts) samples _ _ h k;
    }
