use Rattle.noise_script.proofs.Order.{in_order-is}
use Rattle.noise_script.proofs.laws.breaks_in_order.Goals as goal

pub returns : goal.returns
returns c = in_order-is
