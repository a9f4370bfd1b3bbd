use Rattle.detection.proofs.Names.{[], ◌∷◌, map-append, slot_of}
use Rattle.detection.proofs.Sent.{slot-added}
use Rattle.detection.proofs.laws.signals_grow.Goals as goal

pub returns : goal.returns
returns c = record { slots = λ size before signal. map-append (slot_of size) before (signal ∷ []); bits = slot-added }
