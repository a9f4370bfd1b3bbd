use Rattle.gateway.proofs.Names.{refl, rules, arith}
use Rattle.gateway.proofs.HearingEnds.{arrives-as, heard-ok, heard-err}
use Rattle.gateway.proofs.link.Endpoint.hear.Goals as goal

pub returns-in-Ok : goal.returns-in-Ok
returns-in-Ok c = record {
  in_order = search rules;
  early = omega arith;
  role_is = refl;
  state_is = refl;
  hears = λ a h. record {
    arrived = c.arrived_of-arrived.result;
    arrives = arrives-as _ _ c.args.self.role c.args.carried.now _ a (c.check.ensures a h) c.other.ensures
        c.arrived_of-arrived.ensures.arrives;
    becomes = heard-ok a c.in-Ok.link _ _ _ c.given_break-given.ensures.answer c.given_break-given.ensures.account
        (c.in-Ok.ensures.hears a h);
  };
}

pub returns-in-Err : goal.returns-in-Err
returns-in-Err c = record {
  in_order = search rules;
  early = omega arith;
  role_is = refl;
  state_is = refl;
  hears = λ a h. record {
    arrived = c.arrived_of-arrived.result;
    arrives = arrives-as _ _ c.args.self.role c.args.carried.now _ a (c.check.ensures a h) c.other.ensures
        c.arrived_of-arrived.ensures.arrives;
    becomes = heard-err a c.in-Err.broken _ (c.in-Err.ensures.hears a h);
  };
}
