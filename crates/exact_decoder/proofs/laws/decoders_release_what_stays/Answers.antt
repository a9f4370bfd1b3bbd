use Rattle.exact_decoder.proofs.AnyCode.{releases-least, releases-stay, decoders-agree}
use Rattle.exact_decoder.proofs.laws.decoders_release_what_stays.Goals as goal

pub returns : goal.returns
returns g c = record {
  least = releases-least g.C.TrellisCode.table g.C.TrellisCode.points g.row.STATES g.row.LABELS g.C.TrellisCode.REACH
      (record {
        bounded = g.met.C.TrellisCode.bounded;
        within = g.met.C.TrellisCode.within;
        enters_once = g.met.C.TrellisCode.enters_once;
        some_steps = g.met.C.TrellisCode.reach_some;
        reaches = g.met.C.TrellisCode.reaches;
      });
  stays = releases-stay g.C.TrellisCode.table g.C.TrellisCode.points;
  agree = decoders-agree g.C.TrellisCode.table g.C.TrellisCode.points;
}
