use Rattle.turn_losses.proofs.Detecting.{wants-pattern, undetected-starved, undetected-on-time}
use Rattle.turn_losses.proofs.laws.patterns_are_missed_for_losses.Goals as goal

pub returns : goal.returns
returns c = assumption (
  undetected-on-time c.tries_are_spent_on_time.ensures,
  wants-pattern c.tries_are_spent_on_time.ensures,
  undetected-starved c.tries_are_spent_on_time.ensures,
)
