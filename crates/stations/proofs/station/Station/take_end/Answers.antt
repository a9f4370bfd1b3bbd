use Rattle.stations.proofs.Names.{refl}
use Rattle.stations.proofs.station.Station.take_end.Goals as goal

pub new-requires : goal.new-requires
new-requires c = c.args.self.now.set_up

pub invariant_of-self : goal.invariant_of-self
invariant_of-self c = record { set_up = c.args.self.now.set_up }

pub returns-clause-end : goal.returns-clause-end
returns-clause-end c = c.replace.ensures.value

pub returns-clause-breaks : goal.returns-clause-breaks
returns-clause-breaks c = refl
