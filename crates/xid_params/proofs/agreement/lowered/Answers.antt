use Rattle.std.proofs.Common.{sym, ◌∙◌, ap}
use Rattle.xid_params.specs.Terms.{lowered}
use Rattle.xid_params.proofs.agreement.lowered.Goals as goal

pub returns-then-srej : goal.returns-then-srej
returns-then-srej c = c.min.ensures ∙ sym (ap (λ srej. lowered srej c.args.window) c.if-srej.true)
