use Rattle.exact_decoder.proofs.AnyCode.{few-unreleased}
use Rattle.exact_decoder.proofs.laws.few_labels_are_unreleased.Goals as goal

pub returns : goal.returns
returns g c = few-unreleased g.C.TrellisCode.table g.C.TrellisCode.points g.row.STATES g.row.LABELS g.C.TrellisCode.REACH
    (assumption (
      g.met.C.TrellisCode.bounded,
      g.met.C.TrellisCode.within,
      g.met.C.TrellisCode.enters_once,
      g.met.C.TrellisCode.reach_some,
      g.met.C.TrellisCode.reaches,
    ))
