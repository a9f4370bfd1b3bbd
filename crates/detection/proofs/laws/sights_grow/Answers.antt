use Rattle.detection.proofs.Sightings.{sights-none, sights-more}
use Rattle.detection.proofs.laws.sights_grow.Goals as goal

pub returns : goal.returns
returns c = record { none = sights-none; more = sights-more }
