use Rattle.stations.proofs.Names.{[], subst, arith, fresh, Stands}
use Rattle.stations.specs.OneEnd.Peer.{setup_of}
use Rattle.stations.proofs.one_end.single.Single.new.Goals as goal

pub returns-clause-ready : goal.returns-clause-ready
returns-clause-ready c = record {
  past = record { file = []; slots = []; turns = []; account = fresh (setup_of c.args.role) };
  within = omega arith;
  after = assumption (subst (λ s. Stands c.in_ok-new.field-0 [] (fresh s)) c.setup.ensures.value (c.in_ok-new.ensures.stands []));
  idle = c.in_ok-new.ensures.idle;
  counted = c.in_ok-new.ensures.counted;
}
