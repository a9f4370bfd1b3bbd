use Rattle.gateway.proofs.Names.{refl, rules}
use Rattle.gateway.proofs.HearingEnds.{says-ok}
use Rattle.gateway.proofs.link.Endpoint.speak.Goals as goal

pub returns-in-Ok : goal.returns-in-Ok
returns-in-Ok c = record {
  in_order = search rules;
  role_is = refl;
  state_is = refl;
  says = λ a h. says-ok c.args.self.role a c.in-Ok.link _ _ _ _ _ c.check.ensures c.told_of-told.ensures c.in-Ok.ensures.sendable
      (c.in-Ok.ensures.speaks a h);
}
