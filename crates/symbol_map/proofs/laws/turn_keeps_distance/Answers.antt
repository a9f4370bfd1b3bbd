use Rattle.symbol_map.proofs.Distances.{distance_of-turned}
use Rattle.symbol_map.proofs.laws.turn_keeps_distance.Goals as goal

pub returns : goal.returns
returns c = distance_of-turned
