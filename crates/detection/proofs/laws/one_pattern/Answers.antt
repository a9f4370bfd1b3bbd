use Rattle.detection.proofs.Readings.{gaps-once}
use Rattle.detection.proofs.Answered.{kind-once}
use Rattle.detection.proofs.laws.one_pattern.Goals as goal

pub returns : goal.returns
returns c = record { kind = kind-once; gaps = λ bits seen one other. gaps-once seen bits one other }
