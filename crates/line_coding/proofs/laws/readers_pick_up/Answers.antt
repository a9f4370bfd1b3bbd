use Rattle.line_coding.proofs.Readers.{readers_pick_up}
use Rattle.line_coding.proofs.laws.readers_pick_up.Goals as goal

pub returns : goal.returns
returns c = readers_pick_up
