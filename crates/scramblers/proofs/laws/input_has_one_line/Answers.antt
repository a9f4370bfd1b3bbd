use Rattle.scramblers.proofs.Readings.{Scrambles_once}
use Rattle.scramblers.proofs.laws.input_has_one_line.Goals as goal

pub returns : goal.returns
returns c = Scrambles_once
