use Rattle.line_tap.proofs.Cited.{sym, ap, other}
use Rattle.link_account.specs.Account.{window_for}
use Rattle.line_tap.proofs.listener.window.Goals as goal

pub returns-in-Originator : goal.returns-in-Originator
returns-in-Originator c = sym (ap (λ role. window_for (other role) c.args.terms.now) c.in-Originator.is)
