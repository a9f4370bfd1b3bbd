use Rattle.exact_decoder.specs.Surviving.Trellises.{trellis_of}
use Rattle.exact_decoder.proofs.Surviving.Release.{survivor-one}
use Rattle.exact_decoder.proofs.Surviving.Existence.{reached-survives, some-survives}
use Rattle.exact_decoder.proofs.AnyCode.{IsCodeTable, has-laws}
use Rattle.exact_decoder.proofs.laws.reached_states_have_one_survivor.Goals as goal

pub returns : goal.returns
returns g c =
    let code : IsCodeTable g.C.TrellisCode.table g.row.STATES g.row.LABELS g.C.TrellisCode.REACH =
    assumption (
      g.met.C.TrellisCode.bounded,
      g.met.C.TrellisCode.within,
      g.met.C.TrellisCode.enters_once,
      g.met.C.TrellisCode.reach_some,
      g.met.C.TrellisCode.reaches,
    ) in
    record {
      each = λ starts are samples sequence end q.
          reached-survives (trellis_of g.C.TrellisCode.table g.C.TrellisCode.points starts) _ _ _ samples _ _
          (has-laws _ _ _ _ _ code _ are) q;
      some = λ starts are samples. some-survives (trellis_of g.C.TrellisCode.table g.C.TrellisCode.points starts) _ _ _ samples
          (has-laws _ _ _ _ _ code _ are);
      once = λ starts are samples a b state h k.
          survivor-one (trellis_of g.C.TrellisCode.table g.C.TrellisCode.points starts) samples _ _ _ h k;
    }
