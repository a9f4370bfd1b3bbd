use Rattle.detection.proofs.Sightings.{sights-stay}
use Rattle.detection.proofs.laws.sights_stay.Goals as goal

pub returns : goal.returns
returns c = sights-stay
