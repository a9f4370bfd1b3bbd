use Rattle.noise_bound.proofs.Names.{[], refl}
use Rattle.noise_bound.proofs.margin.Margin.new.Goals as goal

pub returns-clause-stands : goal.returns-clause-stands
returns-clause-stands c = record {
  points = [];
  modulator = c.new.ensures;
  two_each = refl;
  same_length = refl;
  cost_is = refl;
  counted = refl;
}
