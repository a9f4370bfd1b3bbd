use Rattle.stations.proofs.one_end.single.setup.Goals as goal

pub returns-clause-value : goal.returns-clause-value
returns-clause-value c = rw c.default_offer.ensures
