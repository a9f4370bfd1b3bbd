use Rattle.bit_stuffing.proofs.Contents.{closes-fits}
use Rattle.bit_stuffing.proofs.Judged.{not-carried, fits-carries}
use Rattle.bit_stuffing.proofs.laws.ragged_contents.Goals as goal

pub returns : goal.returns
returns c = record { fits = closes-fits; ragged = not-carried; carried = fits-carries }
