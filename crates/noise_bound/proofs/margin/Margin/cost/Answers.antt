use Rattle.noise_bound.proofs.Names.{subst, sym, Measured, IsCostOf}
use Rattle.noise_bound.proofs.Margins.{measured}
use Rattle.noise_bound.proofs.margin.Margin.cost.Goals as goal

pub returns-clause-cost : goal.returns-clause-cost
returns-clause-cost c mode octets samples s =
    subst (λ (m : Measured). IsCostOf mode octets samples m.cost) (sym c.self.view_is) (measured mode c.args.self.now octets samples s)
