use Rattle.line_tap.proofs.Cited.{refl, subst, StandsIn}
use Rattle.lapm_receiver.specs.Incoming.{begun}
use Rattle.line_tap.proofs.listener.EndListener.new.Goals as goal

pub returns-clause-stands : goal.returns-clause-stands
returns-clause-stands c = record {
  role_is = refl;
  check_is = refl;
  agreed_is = c.agreed_check.ensures;
  takes = subst (λ window. StandsIn c.begin.new.self (begun window c.args.terms.now.srej)) c.window-window.ensures c.begin.ensures.stands;
  breaks = c.new-2.ensures.expected_is;
  connected_is = refl;
}
