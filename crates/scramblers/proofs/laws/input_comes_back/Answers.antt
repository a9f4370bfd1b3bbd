use Rattle.scramblers.proofs.Readings.{gives_back}
use Rattle.scramblers.proofs.laws.input_comes_back.Goals as goal

pub returns : goal.returns
returns c = gives_back
