use Rattle.noise_script.proofs.Names.{sym, ap, row}
use Rattle.noise_script.proofs.forms.Form.bound.Goals as goal

pub returns-in-Lose : goal.returns-in-Lose
returns-in-Lose c = sym (ap (λ form. (row form).bound) c.in-Lose.is)
