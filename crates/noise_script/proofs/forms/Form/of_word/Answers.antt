use Rattle.std.proofs.Common.{arith}
use Rattle.noise_script.proofs.FormTable.{none-in-table}
use Rattle.noise_script.proofs.forms.Form.of_word.Goals as goal

pub returns-clause-none : goal.returns-clause-none
returns-clause-none c = none-in-table _ (λ at low. c.loop-form.invariant at (omega (arith, low, c.loop-form-test.false)))
