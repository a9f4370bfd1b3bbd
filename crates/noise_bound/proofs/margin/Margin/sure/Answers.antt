use Rattle.noise_bound.proofs.Names.{nat_lt, ap, Measured, sure}
use Rattle.noise_bound.proofs.margin.Margin.sure.Goals as goal

pub returns : goal.returns
returns c = ap (λ (m : Measured). nat_lt m.cost sure) c.self.view_is
