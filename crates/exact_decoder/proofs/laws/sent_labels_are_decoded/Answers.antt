use Rattle.exact_decoder.proofs.AnyCode.{only-sent, releases-sent}
use Rattle.exact_decoder.proofs.laws.sent_labels_are_decoded.Goals as goal

pub returns : goal.returns
returns g c = assumption (
  only-sent _ _ _ _ g.met.C.TrellisCode.bounded g.met.C.TrellisCode.points_differ,
  releases-sent _ _ _ _ g.met.C.TrellisCode.bounded g.met.C.TrellisCode.points_differ,
)
